-- Entries in the order of their keys, after one is put among them.
use Rattle.std.proofs.Common.{◌≡◌, suc, Bool, true, false, cond, List, [], ◌∷◌, Option, None, Some, length, map, refl, sym, ap, subst, ◌∙◌, true≢false}
use Rattle.std.specs.Prelude.{is_some}
use Rattle.std.specs.BTreeMap.{insert_entry, is_at}
use Rattle.std.specs.Cmp.{IsTotalOrder, Equal-is, eq_by_cmp_equiv}
use Rattle.std.specs.List.{AllByRecursion}
use Rattle.std.specs.List.Sorted.{IsStrictlySortedBy}
use Rattle.std.specs.Map.{keys_of, lookup}
use Rattle.std.specs.Ordering.{is_eq, match_ordering, ordering_reverse}
use Rattle.std.specs.declared.cmp.Ordering.{Ordering}
use Rattle.std.specs.declared.cmp.Ordering.TheVariants.{Less, Equal, Greater}
use Rattle.std.proofs.lemmas.Map.{lookup-none}
use Rattle.std.proofs.lemmas.Map.Entries.{none_below_head}
use Rattle.std.proofs.lemmas.Map.Lookups.{CmpEqualImpliesEq}
use Rattle.keeper.specs.Put.{put, put_by}
use Rattle.order_desk.specs.History.{Stays}

pub weaker : {A : Type 0} (P Q : A → Type 0) → ((x : A) → P x → Q x) → (xs : List A) → AllByRecursion P xs → AllByRecursion Q xs
weaker P Q so [] all = tt
weaker P Q so (x ∷ xs) all = (so x all.0, weaker P Q so xs all.1)

pub stays-same : {A : Type 0} (P : A → A → Type 0) → ((a : A) → P a a) → (o : Option A) → Stays P o o
stays-same P same None = tt
stays-same P same (Some a) = same a

module _ {K X : Type 0} {R : K → K → Ordering} (total : IsTotalOrder R) (exact : CmpEqualImpliesEq R) (k : K) (v : X) where
  here : is_eq (R k k) ≡ true
  here = (eq_by_cmp_equiv total).refl k

  -- what is found at the key
  pub lookup-same : (es : List (K × X)) → lookup (is_at (R k)) (insert_entry R es k v) ≡ Some v
  lookup-same [] = ap (λ b. cond b (Some v) None) here
  lookup-same (e ∷ es) = by (R k e.0) refl (lookup-same es)
    where
      by : (r : Ordering) → R k e.0 ≡ r → lookup (is_at (R k)) (insert_entry R es k v) ≡ Some v
          → lookup (is_at (R k)) (match_ordering r ((k, v) ∷ e ∷ es) ((e.0, v) ∷ es) (e ∷ insert_entry R es k v)) ≡ Some v
      by Less p later = ap (λ b. cond b (Some v) (lookup (is_at (R k)) (e ∷ es))) here
      by Equal p later = ap (λ r. cond (is_eq r) (Some v) (lookup (is_at (R k)) es)) p
      by Greater p later = ap (λ r. cond (is_eq r) (Some e.1) (lookup (is_at (R k)) (insert_entry R es k v))) p ∙ later

  -- and at another one
  pub lookup-other : (q : K) → is_eq (R q k) ≡ false → (es : List (K × X))
      → lookup (is_at (R q)) (insert_entry R es k v) ≡ lookup (is_at (R q)) es
  lookup-other q apart [] = ap (λ b. cond b (Some v) None) apart
  lookup-other q apart (e ∷ es) = by (R k e.0) refl (lookup-other q apart es)
    where
      by : (r : Ordering) → R k e.0 ≡ r → lookup (is_at (R q)) (insert_entry R es k v) ≡ lookup (is_at (R q)) es
          → lookup (is_at (R q)) (match_ordering r ((k, v) ∷ e ∷ es) ((e.0, v) ∷ es) (e ∷ insert_entry R es k v)) ≡ lookup (is_at (R q)) (e ∷ es)
      by Less p later = ap (λ b. cond b (Some v) (lookup (is_at (R q)) (e ∷ es))) apart
      by Equal p later =
          let off : is_eq (R q e.0) ≡ false = ap (λ x. is_eq (R q x)) (sym (exact k e.0 p)) ∙ apart in
          ap (λ b. cond b (Some v) (lookup (is_at (R q)) es)) off ∙ sym (ap (λ b. cond b (Some e.1) (lookup (is_at (R q)) es)) off)
      by Greater p later = ap (λ rest. cond (is_eq (R q e.0)) (Some e.1) rest) later

  -- so what is tied at this key alone stays at all
  pub stays-insert : (P : X → X → Type 0) → ((x : X) → P x x) → (es : List (K × X)) → Stays P (lookup (is_at (R k)) es) (Some v)
      → (q : K) → Stays P (lookup (is_at (R q)) es) (lookup (is_at (R q)) (insert_entry R es k v))
  stays-insert P same es so q = by (is_eq (R q k)) refl
    where
      Goal : K → Type 0
      Goal x = Stays P (lookup (is_at (R x)) es) (lookup (is_at (R x)) (insert_entry R es k v))

      by : (b : Bool) → is_eq (R q k) ≡ b → Goal q
      by false apart = subst (Stays P (lookup (is_at (R q)) es)) (sym (lookup-other q apart es)) (stays-same P same (lookup (is_at (R q)) es))
      by true at = subst Goal (sym (exact q k ((Equal-is (R q k)).0 at))) (subst (Stays P (lookup (is_at (R k)) es)) (sym (lookup-same es)) so)

  pub all-insert : (P : K × X → Type 0) → P (k, v) → (es : List (K × X)) → AllByRecursion P es → AllByRecursion P (insert_entry R es k v)
  all-insert P so [] all = (so, tt)
  all-insert P so (e ∷ es) all = by (R k e.0) refl (all-insert P so es all.1)
    where
      by : (r : Ordering) → R k e.0 ≡ r → AllByRecursion P (insert_entry R es k v)
          → AllByRecursion P (match_ordering r ((k, v) ∷ e ∷ es) ((e.0, v) ∷ es) (e ∷ insert_entry R es k v))
      by Less p later = (so, all)
      by Equal p later = (subst (λ x. P (x, v)) (exact k e.0 p) so, all.1)
      by Greater p later = (all.0, later)

  all_keys : (P : K → Type 0) → P k → (es : List (K × X)) → AllByRecursion P (keys_of es) → AllByRecursion P (keys_of (insert_entry R es k v))
  all_keys P so [] all = (so, tt)
  all_keys P so (e ∷ es) all = by (R k e.0) (all_keys P so es all.1)
    where
      by : (r : Ordering) → AllByRecursion P (keys_of (insert_entry R es k v))
          → AllByRecursion P (keys_of (match_ordering r ((k, v) ∷ e ∷ es) ((e.0, v) ∷ es) (e ∷ insert_entry R es k v)))
      by Less later = (so, all)
      by Equal later = all
      by Greater later = (all.0, later)

  pub sorted-insert : (es : List (K × X)) → IsStrictlySortedBy R (keys_of es) → IsStrictlySortedBy R (keys_of (insert_entry R es k v))
  unfolding IsStrictlySortedBy
  sorted-insert [] s = (tt, tt)
  sorted-insert (e ∷ es) s = by (R k e.0) refl (sorted-insert es s.1)
    where
      by : (r : Ordering) → R k e.0 ≡ r → IsStrictlySortedBy R (keys_of (insert_entry R es k v))
          → IsStrictlySortedBy R (keys_of (match_ordering r ((k, v) ∷ e ∷ es) ((e.0, v) ∷ es) (e ∷ insert_entry R es k v)))
      by Less p later = ((p, weaker _ _ (λ y below. total.trans k e.0 y p below) (keys_of es) s.0), s)
      by Equal p later = s
      by Greater p later = (all_keys _ (total.antisymm e.0 k ∙ ap ordering_reverse p) es s.0, later)

  -- a key that is there keeps the number of entries
  pub length-over : (es : List (K × X)) → IsStrictlySortedBy R (keys_of es) → is_some (lookup (is_at (R k)) es) ≡ true
      → length (insert_entry R es k v) ≡ length es
  unfolding IsStrictlySortedBy
  length-over [] s found = absurd (true≢false (sym found))
  length-over (e ∷ es) s found = by (R k e.0) refl (length-over es s.1) found
    where
      by : (r : Ordering) → R k e.0 ≡ r → (is_some (lookup (is_at (R k)) es) ≡ true → length (insert_entry R es k v) ≡ length es)
          → is_some (cond (is_eq r) (Some e.1) (lookup (is_at (R k)) es)) ≡ true
          → length (match_ordering r ((k, v) ∷ e ∷ es) ((e.0, v) ∷ es) (e ∷ insert_entry R es k v)) ≡ suc (length es)
      by Less p later f = absurd (true≢false (sym f ∙ ap is_some (lookup-none (is_at (R k)) es (none_below_head total k e es s p).1)))
      by Equal p later f = refl
      by Greater p later f = ap suc (later f)

  -- a new one makes one more
  pub length-new : (es : List (K × X)) → lookup (is_at (R k)) es ≡ None → length (insert_entry R es k v) ≡ suc (length es)
  length-new [] none = refl
  length-new (e ∷ es) none = by (R k e.0) (length-new es) none
    where
      by : (r : Ordering) → (lookup (is_at (R k)) es ≡ None → length (insert_entry R es k v) ≡ suc (length es))
          → cond (is_eq r) (Some e.1) (lookup (is_at (R k)) es) ≡ None
          → length (match_ordering r ((k, v) ∷ e ∷ es) ((e.0, v) ∷ es) (e ∷ insert_entry R es k v)) ≡ suc (suc (length es))
      by Less later f = refl
      by Equal later f = absurd (true≢false (ap is_some f))
      by Greater later f = ap suc (later f)

  -- the rows of the entries, where the rows are in the order of the keys
  pub map-insert : {Row : Type 0} (row : K × X → Row) (C : Row → Row → Ordering)
      → ((a b : K × X) → C (row a) (row b) ≡ R a.0 b.0) → (es : List (K × X))
      → map row (insert_entry R es k v) ≡ put C (row (k, v)) (map row es)
  map-insert row C agrees [] = refl
  map-insert row C agrees (e ∷ es) =
      by (R k e.0) refl (map-insert row C agrees es)
      ∙ sym (ap (λ o. put_by o (row (k, v)) (row e) (map row es) (put C (row (k, v)) (map row es))) (agrees (k, v) e))
    where
      by : (r : Ordering) → R k e.0 ≡ r → map row (insert_entry R es k v) ≡ put C (row (k, v)) (map row es)
          → map row (match_ordering r ((k, v) ∷ e ∷ es) ((e.0, v) ∷ es) (e ∷ insert_entry R es k v))
          ≡ put_by r (row (k, v)) (row e) (map row es) (put C (row (k, v)) (map row es))
      by Less p later = refl
      by Equal p later = ap (λ x. row (x, v) ∷ map row es) (sym (exact k e.0 p))
      by Greater p later = ap (λ rest. row e ∷ rest) later
