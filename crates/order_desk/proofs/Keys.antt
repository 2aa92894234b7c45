-- The orders of names and of the keys of orders tell all of them apart.
use Rattle.std.proofs.Common.{◌≡◌}
use Rattle.std.specs.Cmp.{IsTotalOrder, nat_cmp_total, on_total, then_total}
use Rattle.std.specs.Cmp.Lexicographic.{nat_list_cmp_total}
use Rattle.std.specs.Ordering.{nat_cmp}
use Rattle.std.proofs.lemmas.Map.Lookups.{CmpEqualImpliesEq, exact_bytes, exact_pairs, exact_unsigned}
use Rattle.order_desk.specs.declared.order_key.OrderKey.{OrderKey}
use Rattle.order_desk.specs.Tables.{by_name, by_key}

pub by_name_total : IsTotalOrder by_name
by_name_total = nat_list_cmp_total

pub by_name_exact : CmpEqualImpliesEq by_name
by_name_exact = exact_bytes

pub by_key_total : IsTotalOrder by_key
by_key_total =
    then_total (on_total (λ (k : OrderKey). k.caller) nat_list_cmp_total) (on_total (λ (k : OrderKey). k.number) nat_cmp_total)

pub by_key_exact : CmpEqualImpliesEq by_key
by_key_exact a b h =
    let pairs : (a.caller, a.number) ≡ (b.caller, b.number) =
    exact_pairs by_name nat_cmp exact_bytes exact_unsigned (a.caller, a.number) (b.caller, b.number) h in
    λ i. record { caller = (pairs i).0; number = (pairs i).1 }
