-- What orders of the worked book come to.
use Rattle.std.proofs.Common.{◌≡◌, true, false, [], ◌∷◌, Ok, Err, refl}
use Rattle.std.specs.Prelude.{codes}
use Rattle.book_model.specs.WorkedBook.{an_engine, a_gearbox, one_gearbox, motor, m1, m2, book_with, book_t, book_tg, set_t}
use Rattle.supplement.specs.Completion.{completion_by}
use Rattle.parts_usage.specs.Outcome.{outcome_of}
use Rattle.parts_usage.specs.declared.fault.OrderFault.TheVariants.{DayOutsideTerm, UnknownCode, RepeatedCode}
use Rattle.parts_usage.specs.declared.judgement.Outcome.TheVariants.{Accepted, Refused, Unfit}

-- the first engine brings five gears
first_engine : outcome_of book_t 1 (codes "M1" ∷ []) ≡ Ok (Accepted (set_t true false true false false) (record { position = 0; variant = 0 } ∷ []))
unfolding completion_by
first_engine = refl

seven_gears : outcome_of book_t 1 (codes "M1" ∷ codes "G7" ∷ []) ≡ Ok (Accepted (set_t true false false true false) (record { position = 0; variant = 0 } ∷ []))
unfolding completion_by
seven_gears = refl

-- no engine, two engines, no gearbox
nothing : outcome_of book_t 1 [] ≡ Ok (Refused 0)
unfolding completion_by
nothing = refl

two_engines : outcome_of book_t 1 (codes "M1" ∷ codes "M2" ∷ []) ≡ Ok (Refused 1)
unfolding completion_by
two_engines = refl

no_gearbox : outcome_of book_t 1 (codes "M2" ∷ []) ≡ Ok (Refused 2)
unfolding completion_by
no_gearbox = refl

-- groups refuse the same orders, and each is named by its own place
seven_gears_in_groups : outcome_of book_tg 1 (codes "M1" ∷ codes "G7" ∷ []) ≡ outcome_of book_t 1 (codes "M1" ∷ codes "G7" ∷ [])
unfolding completion_by
seven_gears_in_groups = refl

two_engines_in_a_group : outcome_of book_tg 1 (codes "M1" ∷ codes "M2" ∷ []) ≡ Ok (Refused 0)
unfolding completion_by
two_engines_in_a_group = refl

no_engine_in_a_group : outcome_of book_tg 1 [] ≡ Ok (Refused 0)
unfolding completion_by
no_engine_in_a_group = refl

no_gearbox_in_a_group : outcome_of book_tg 1 (codes "M2" ∷ []) ≡ Ok (Refused 1)
unfolding completion_by
no_gearbox_in_a_group = refl

-- days outside the term, a code that the book doesn't have, a code ordered twice
day_0 : outcome_of book_t 0 (codes "M1" ∷ []) ≡ Err DayOutsideTerm
unfolding completion_by
day_0 = refl

day_1001 : outcome_of book_t 1001 (codes "M1" ∷ []) ≡ Err DayOutsideTerm
unfolding completion_by
day_1001 = refl

unknown : outcome_of book_t 1 (codes "M1" ∷ codes "XX" ∷ []) ≡ Err (UnknownCode 2)
unfolding completion_by
unknown = refl

repeated : outcome_of book_t 1 (codes "M1" ∷ codes "M1" ∷ []) ≡ Err (RepeatedCode 2)
unfolding completion_by
repeated = refl

-- without the rule for one engine, two engines select two motors
two_motors : outcome_of (book_with (an_engine ∷ a_gearbox ∷ one_gearbox ∷ [])
    (motor (codes "V1") (codes "A100") m1 1 1000 ∷ motor (codes "V2") (codes "A200") m2 1 1000 ∷ [])) 1 (codes "M1" ∷ codes "M2" ∷ []) ≡ Ok (Unfit 0 2)
unfolding completion_by
two_motors = refl
