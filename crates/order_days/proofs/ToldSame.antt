-- The test of two outcomes decides whether they are told alike.
use Rattle.std.proofs.Common.{◌≡◌, Bool, true, false, eqb, List, refl, sym, ap, ap₂, ◌∙◌, Decides}
use Rattle.std.specs.Cmp.{booleans_Decides}
use Rattle.std.specs.Cmp.Lexicographic.{pointwise_decides}
use Rattle.std.proofs.lemmas.Bool.{and_parts, and_from, eqb-true, eq-eqb, false≢true}
use Rattle.chosen_parts.proofs.UseLaws.{same_from_test, test_from_same}
use Rattle.chosen_parts.specs.declared.part_use.PartUse.{PartUse}
use Rattle.order_days.specs.Days.{Told, builds, refuses, misfits}
use Rattle.order_days.specs.Same.{is_same_set, are_same_uses, are_same_parts, is_told_same}

set_decides : (x y : List Bool) → Decides (is_same_set x y) (x ≡ y)
set_decides = pointwise_decides booleans_Decides

uses_decide : (us vs : List PartUse) → Decides (are_same_uses us vs) (us ≡ vs)
uses_decide = pointwise_decides (λ p q. (same_from_test p q, test_from_same p q))

parts_decide : (ps qs : List (List PartUse)) → Decides (are_same_parts ps qs) (ps ≡ qs)
parts_decide = pointwise_decides uses_decide

pub told_alike : (s t : Told) → is_told_same s t ≡ true → s ≡ t
told_alike (builds x ps) (builds y qs) h =
    let both = and_parts (is_same_set x y) (are_same_parts ps qs) h in
    ap₂ builds ((set_decides x y).0 both.0) ((parts_decide ps qs).0 both.1)
told_alike (builds x ps) (refuses s) h = absurd (false≢true h)
told_alike (builds x ps) (misfits q d) h = absurd (false≢true h)
told_alike (refuses r) (builds y qs) h = absurd (false≢true h)
told_alike (refuses r) (refuses s) h = ap refuses (eqb-true r s h)
told_alike (refuses r) (misfits q d) h = absurd (false≢true h)
told_alike (misfits p c) (builds y qs) h = absurd (false≢true h)
told_alike (misfits p c) (refuses s) h = absurd (false≢true h)
told_alike (misfits p c) (misfits q d) h =
    let both = and_parts (eqb p q) (eqb c d) h in
    ap₂ misfits (eqb-true p q both.0) (eqb-true c d both.1)

own_test : (t : Told) → is_told_same t t ≡ true
own_test (builds x ps) = and_from _ _ ((set_decides x x).1 refl) ((parts_decide ps ps).1 refl)
own_test (refuses r) = eq-eqb r r refl
own_test (misfits p c) = and_from _ _ (eq-eqb p p refl) (eq-eqb c c refl)

pub told_apart : (s t : Told) → is_told_same s t ≡ false → s ≡ t → ⊥
told_apart s t h same = false≢true (sym h ∙ ap (is_told_same s) (sym same) ∙ own_test s)
