-- The definition of completing at small books.
use Rattle.std.proofs.Common.{◌≡◌, ℕ, Bool, true, false, List, [], ◌∷◌, refl}
use Rattle.pb_base.specs.Rule.{Rule, code, negation, both, always}
use Rattle.book_model.specs.Contents.{Contents}
use Rattle.book_model.specs.declared.record.Supplement.{Supplement}
use Rattle.supplement.specs.declared.completed.Added.{Added}
use Rattle.supplement.specs.Completion.{completion_by, completion_of}

-- a rule of the ten days of the term
abbrev adds : ℕ → ℕ → Rule → Supplement
adds rank place rule = record { id = 83 ∷ []; rank = rank; code = place; rule = rule; from = 1; until = 10 }

-- a book of the codes A, B and C with these supplementing rules
abbrev book_with : List Supplement → Contents
book_with rules = record {
  name = 85 ∷ [];
  first = 1;
  last = 10;
  codes = (65 ∷ []) ∷ (66 ∷ []) ∷ (67 ∷ []) ∷ [];
  supplements = rules;
  constructs = [];
  modules = [];
  positions = [];
  variants = [];
}

abbrev added : ℕ → ℕ → Added
added place rule = record { code = place; rule = rule }

abbrev only_a : List Bool
only_a = true ∷ false ∷ false ∷ []

-- the first rule adds C on B, the second B on A: the second fires, and then the first
turns_true_late : completion_of (book_with (adds 1 2 (code 1) ∷ adds 2 1 (code 0) ∷ [])) 1 only_a ≡ record { set = true ∷ true ∷ true ∷ []; added = added 1 1 ∷ added 2 0 ∷ [] }
unfolding completion_by
turns_true_late = refl

-- B on A without C, and C on A without B: the lower rank fires
lower_rank : completion_of (book_with (adds 1 1 (both (code 0) (negation (code 2))) ∷ adds 2 2 (both (code 0) (negation (code 1))) ∷ [])) 1 only_a ≡ record { set = true ∷ true ∷ false ∷ []; added = added 1 0 ∷ [] }
unfolding completion_by
lower_rank = refl

ranks_exchanged : completion_of (book_with (adds 2 1 (both (code 0) (negation (code 2))) ∷ adds 1 2 (both (code 0) (negation (code 1))) ∷ [])) 1 only_a ≡ record { set = true ∷ false ∷ true ∷ []; added = added 2 1 ∷ [] }
unfolding completion_by
ranks_exchanged = refl

-- at equal ranks the earlier record fires
tie : completion_of (book_with (adds 1 1 (both (code 0) (negation (code 2))) ∷ adds 1 2 (both (code 0) (negation (code 1))) ∷ [])) 1 only_a ≡ record { set = true ∷ true ∷ false ∷ []; added = added 1 0 ∷ [] }
unfolding completion_by
tie = refl

-- a rule that is not active adds nothing
out_of_days : completion_of (book_with (adds 1 1 always ∷ [])) 11 only_a ≡ record { set = only_a; added = [] }
unfolding completion_by
out_of_days = refl
