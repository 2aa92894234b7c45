-- How orders of the worked book are completed.
use Rattle.std.proofs.Common.{◌≡◌, true, false, [], ◌∷◌, refl}
use Rattle.book_model.specs.WorkedBook.{book_t, set_t}
use Rattle.supplement.specs.Completion.{completion_by, completion_of}

-- the first engine brings five gears
first_engine : completion_of book_t 1 (set_t true false false false false) ≡ record { set = set_t true false true false false; added = record { code = 2; rule = 0 } ∷ [] }
unfolding completion_by
first_engine = refl

-- unless seven are ordered, or the second engine alone
seven_gears : completion_of book_t 1 (set_t true false false true false) ≡ record { set = set_t true false false true false; added = [] }
unfolding completion_by
seven_gears = refl

second_engine : completion_of book_t 1 (set_t false true false false false) ≡ record { set = set_t false true false false false; added = [] }
unfolding completion_by
second_engine = refl
