-- Definitions at small books, which a wrong body would get wrong.
use Rattle.std.proofs.Common.{◌≡◌, true, false, List, [], ◌∷◌, refl}
use Rattle.std.specs.Prelude.{codes}
use Rattle.pb_base.specs.Rule.{both, negation}
use Rattle.book_model.specs.Contents.{Contents}
use Rattle.book_model.specs.WorkedBook.{book_t, five_gears, m1, g5, g7, set_t}
use Rattle.book_model.specs.declared.record.Supplement.{Supplement}
use Rattle.supplement.specs.Completion.{completion_by}
use Rattle.chosen_parts.specs.Chosen.{is_same_use}
use Rattle.firing_sequence.specs.Sequence.{same_sequences}

-- a rule of a lower rank, which fires only when the code of another rule is there
abbrev with_five : Supplement
with_five = record { id = codes "S2"; rank = 5; code = 4; rule = g5; from = 1; until = 1000 }

-- rules that are applied once in the sequence of their ranks would not add the fifth code
again_after_another : (completion_by (five_gears ∷ with_five ∷ []) 1 (set_t true false false false false)).set ≡ set_t true false true false true
unfolding completion_by
again_after_another = refl

-- the same part, and two of it in place of one
another_quantity : is_same_use (record { part = codes "A100"; quantity = 1 }) (record { part = codes "A100"; quantity = 2 }) ≡ false
another_quantity = refl

the_same_quantity : is_same_use (record { part = codes "A100"; quantity = 2 }) (record { part = codes "A100"; quantity = 2 }) ≡ true
the_same_quantity = refl

-- the worked book with these rules in place of its own
abbrev book_of : List Supplement → Contents
book_of rules = record {
  name = book_t.name;
  first = book_t.first;
  last = book_t.last;
  codes = book_t.codes;
  supplements = rules;
  constructs = book_t.constructs;
  modules = book_t.modules;
  positions = book_t.positions;
  variants = book_t.variants;
}

-- its rule under another id and at another rank; and under its own id a rule that adds another code
abbrev renamed : Supplement
renamed = record { id = codes "S9"; rank = 20; code = 2; rule = both m1 (negation g7); from = 1; until = 1000 }

abbrev another : Supplement
another = record { id = codes "S1"; rank = 10; code = 4; rule = both m1 (negation g7); from = 1; until = 1000 }

told_apart_by_no_id : same_sequences book_t (book_of (renamed ∷ [])) 1 ≡ true
told_apart_by_no_id = refl

told_apart_by_the_code : same_sequences book_t (book_of (another ∷ [])) 1 ≡ false
told_apart_by_the_code = refl
