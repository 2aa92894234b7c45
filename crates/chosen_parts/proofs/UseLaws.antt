-- Two uses are the same where the test says so.
use Rattle.std.proofs.Common.{◌≡◌, Bool, true, false, ◌&&◌, eqb, refl, sym, ap, ◌∙◌}
use Rattle.std.specs.Cmp.Lexicographic.{bytes_decides}
use Rattle.std.proofs.lemmas.Bool.{and_parts, and_from, eqb-true, eq-eqb}
use Rattle.pb_base.specs.Names.{same_name}
use Rattle.chosen_parts.specs.Chosen.{is_same_use}
use Rattle.chosen_parts.specs.declared.part_use.PartUse.{PartUse}

pub same_from_test : (p q : PartUse) → is_same_use p q ≡ true → p ≡ q
same_from_test p q h =
    let both = and_parts (same_name p.part q.part) (eqb p.quantity q.quantity) h in
    ap (λ part. record { part = part; quantity = p.quantity }) ((bytes_decides p.part q.part).0 both.0)
    ∙ ap (λ quantity. record { part = q.part; quantity = quantity }) (eqb-true p.quantity q.quantity both.1)

pub test_from_same : (p q : PartUse) → p ≡ q → is_same_use p q ≡ true
test_from_same p q h =
    and_from _ _ ((bytes_decides p.part q.part).1 (ap (λ (u : PartUse). u.part) h)) (eq-eqb p.quantity q.quantity (ap (λ (u : PartUse). u.quantity) h))
