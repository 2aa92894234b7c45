-- A table whose rows are right, each over the rows before it: its keys rise, it keeps its limit, and each entry is as its row says.
use Rattle.std.proofs.Common.{◌≡◌, ℕ, ◌+◌, ◌<◌, ◌≤◌, Bool, true, false, List, [], ◌∷◌, ◌++◌, None, Some, length, map, refl, sym, ap, subst, ◌∙◌, arith}
use Rattle.std.specs.Prelude.{if◌then◌else◌}
use Rattle.std.specs.Cmp.{IsTotalOrder}
use Rattle.std.specs.List.{AllByRecursion, list_all}
use Rattle.std.specs.List.Sorted.{IsStrictlySortedBy}
use Rattle.std.specs.Map.{keys_of}
use Rattle.std.specs.Ordering.{is_lt}
use Rattle.std.specs.declared.cmp.Ordering.{Ordering}
use Rattle.std.proofs.lemmas.List.{append-nil, append_assoc, length-append, map-append}
use Rattle.std.proofs.lemmas.Map.Lookups.{CmpEqualImpliesEq}
use Rattle.order_desk.specs.RightRows.{first_wrong}
use Rattle.order_desk.proofs.Entries.{sorted-insert}
use Rattle.order_desk.proofs.RisingKeys.{insert-last}
use Rattle.order_desk.proofs.Validity.{all-push}

-- what a right row says of its entry
pub record IsNext {K X : Type 0} (R : K → K → Ordering) (most : ℕ) (P : K × X → Type 0) (es : List (K × X)) (e : K × X) : Type 0 where
  pub rises : list_all (λ other. is_lt (R other e.0)) (keys_of es) ≡ true
  pub room : length es < most
  pub is : P e

pub record IsTable {K X : Type 0} (R : K → K → Ordering) (most : ℕ) (P : K × X → Type 0) (es : List (K × X)) : Type 0 where
  pub in_order : IsStrictlySortedBy R (keys_of es)
  pub few : length es ≤ most
  pub all : AllByRecursion P es

module _ {K X Row : Type 0} {R : K → K → Ordering} (total : IsTotalOrder R) (exact : CmpEqualImpliesEq R) (most : ℕ)
    (P : K × X → Type 0) (row : K × X → Row) (is_right : List Row → Row → Bool)
    (says : (es : List (K × X)) (e : K × X) → is_right (map row es) (row e) ≡ true → IsNext R most P es e) where
  table_more : (es : List (K × X)) (e : K × X) → IsTable R most P es → IsNext R most P es e → IsTable R most P (es ++ e ∷ [])
  table_more es e table next =
      let last = insert-last total es e.0 e.1 next.rises in
      record {
        in_order = subst (λ l. IsStrictlySortedBy R (keys_of l)) last (sorted-insert total exact e.0 e.1 es table.in_order);
        few = omega (arith, length-append es (e ∷ []), next.room);
        all = all-push P es e table.all next.is;
      }

  pub table_right : (es ds : List (K × X)) → IsTable R most P es → first_wrong is_right (map row es) (map row ds) ≡ None
      → IsTable R most P (es ++ ds)
  table_right es [] table right = subst (IsTable R most P) (sym (append-nil es)) table
  table_right es (d ∷ ds) table right =
      by (is_right (map row es) (row d)) refl right (λ so rest. subst (IsTable R most P) (append_assoc es (d ∷ []) ds)
      (table_right (es ++ d ∷ []) ds (table_more es d table (says es d so))
      (ap (λ l. first_wrong is_right l (map row ds)) (map-append row es (d ∷ [])) ∙ rest)))
    where
      by : (b : Bool) → is_right (map row es) (row d) ≡ b
          → (if b then first_wrong is_right (map row es ++ row d ∷ []) (map row ds) else Some (length (map row es) + 1)) ≡ None
          → (is_right (map row es) (row d) ≡ true → first_wrong is_right (map row es ++ row d ∷ []) (map row ds) ≡ None → IsTable R most P (es ++ d ∷ ds))
          → IsTable R most P (es ++ d ∷ ds)
      by true so rest goes = goes so rest
      by false so rest goes = cc
