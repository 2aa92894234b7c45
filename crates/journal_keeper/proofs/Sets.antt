-- A map that takes an entry takes its row as a table does.
use Rattle.std.proofs.Common.{◌≡◌, ℕ, List, [], ◌∷◌, map, refl, sym, ap, ◌∙◌}
use Rattle.std.specs.Global.{Vec}
use Rattle.std.specs.BTreeMap.{insert_entry}
use Rattle.std.specs.Ordering.{nat_cmp, ordering_then, match_ordering}
use Rattle.std.specs.Cmp.Lexicographic.{slice_cmp}
use Rattle.std.specs.declared.cmp.Ordering.{Ordering}
use Rattle.std.specs.declared.cmp.Ordering.TheVariants.{Less, Equal, Greater}
use Rattle.std.proofs.lemmas.Map.Lookups.{exact_unsigned, exact_bytes, exact_pairs}
use Rattle.keeper.specs.Put.{put, put_by}
use Rattle.keeper.specs.Keys.{by_name, by_number, by_caller}
use Rattle.journal_keeper.specs.declared.tables.DraftFields.{DraftFields}
use Rattle.journal_keeper.specs.declared.tables.BookFields.{BookFields}
use Rattle.journal_keeper.specs.declared.tables.OrderFields.{OrderFields}
use Rattle.journal_keeper.specs.Tables.{draft_of, book_of, order_of, number_of_entry}

module _ {K V R : Type 0} (cmp : K → K → Ordering) (C : R → R → Ordering) (row : K × V → R)
    (agrees : (k : K) (v : V) (e : K × V) → C (row (k, v)) (row e) ≡ cmp k e.0)
    (exact : (k j : K) (v : V) → cmp k j ≡ Equal → row (j, v) ≡ row (k, v)) where
  by_order : (k : K) (v : V) (e : K × V) (es : List (K × V)) → map row (insert_entry cmp es k v) ≡ put C (row (k, v)) (map row es)
      → (o : Ordering) → cmp k e.0 ≡ o
      → map row (match_ordering o ((k, v) ∷ e ∷ es) ((e.0, v) ∷ es) (e ∷ insert_entry cmp es k v))
      ≡ put_by o (row (k, v)) (row e) (map row es) (put C (row (k, v)) (map row es))
  by_order k v e es rest Less is = refl
  by_order k v e es rest Equal is = ap (λ r. r ∷ map row es) (exact k e.0 v is)
  by_order k v e es rest Greater is = ap (λ l. row e ∷ l) rest

  pub sets : (es : List (K × V)) (k : K) (v : V) → map row (insert_entry cmp es k v) ≡ put C (row (k, v)) (map row es)
  sets [] k v = refl
  sets (e ∷ es) k v =
      by_order k v e es (sets es k v) (cmp k e.0) refl
      ∙ ap (λ o. put_by o (row (k, v)) (row e) (map row es) (put C (row (k, v)) (map row es))) (sym (agrees k v e))

pub draft_set : (es : List (Vec ℕ × DraftFields)) (name : Vec ℕ) (fields : DraftFields)
    → map draft_of (insert_entry (λ a b. slice_cmp nat_cmp a.items b.items) es name fields) ≡ put by_name (draft_of (name, fields)) (map draft_of es)
draft_set = sets (λ a b. slice_cmp nat_cmp a.items b.items) by_name draft_of (λ k v e. refl)
    (λ k j v is. ap (λ n. record { name = n; owner = v.owner; revision = v.revision; text = v.text }) (sym (exact_bytes k.items j.items is)))

pub book_set : (es : List (ℕ × BookFields)) (number : ℕ) (fields : BookFields)
    → map book_of (insert_entry nat_cmp es number fields) ≡ put by_number (book_of (number, fields)) (map book_of es)
book_set = sets nat_cmp by_number book_of (λ k v e. refl) (λ k j v is. ap (λ n. book_of (n, v)) (sym (exact_unsigned k j is)))

pub order_set : (es : List ((Vec ℕ × ℕ) × OrderFields)) (key : Vec ℕ × ℕ) (fields : OrderFields)
    → map order_of (insert_entry (λ a b. ordering_then (slice_cmp nat_cmp a.0.items b.0.items) (nat_cmp a.1 b.1)) es key fields) ≡ put by_caller (order_of (key, fields)) (map order_of es)
order_set = sets (λ a b. ordering_then (slice_cmp nat_cmp a.0.items b.0.items) (nat_cmp a.1 b.1)) by_caller order_of (λ k v e. refl)
    (λ k j v is. ap (λ (p : List ℕ × ℕ). record { caller = p.0; number = p.1; book = v.book; day = v.day; codes = v.codes })
    (sym (exact_pairs (slice_cmp nat_cmp) nat_cmp exact_bytes exact_unsigned (k.0.items, k.1) (j.0.items, j.1) is)))

pub withdrawn_set : {U : Type 0} (es : List (ℕ × U)) (number : ℕ) (none : U)
    → map number_of_entry (insert_entry nat_cmp es number none) ≡ put nat_cmp number (map number_of_entry es)
withdrawn_set = sets nat_cmp nat_cmp number_of_entry (λ k v e. refl) (λ k j v is. sym (exact_unsigned k j is))
