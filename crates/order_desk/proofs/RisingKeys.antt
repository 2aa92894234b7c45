-- Keys in order: one that is behind the last is behind all.
use Rattle.std.proofs.Common.{◌≡◌, ℕ, zero, suc, true, false, ◌&&◌, List, [], ◌∷◌, ◌++◌, Some, map, refl, sym, ap, ◌∙◌}
use Rattle.std.specs.Prelude.{slice_get}
use Rattle.std.specs.BTreeMap.{insert_entry}
use Rattle.std.specs.Cmp.{IsTotalOrder}
use Rattle.std.specs.List.{All, list_all}
use Rattle.std.proofs.lemmas.List.Elements.{All-head, All-tail}
use Rattle.std.specs.Map.{keys_of}
use Rattle.std.specs.Ordering.{is_lt, match_ordering, ordering_reverse}
use Rattle.std.specs.declared.cmp.Ordering.{Ordering}
use Rattle.std.specs.declared.cmp.Ordering.TheVariants.{Less, Equal, Greater}
use Rattle.order_desk.proofs.Conjunction.{left_of, right_of, both_of, not_left, not_right}

pub is_less : (o : Ordering) → is_lt o ≡ true → o ≡ Less
is_less Less h = refl
is_less Equal h = cc
is_less Greater h = cc

pub not_less : (o : Ordering) → (o ≡ Less → ⊥) → is_lt o ≡ false
not_less Less h = absurd (h refl)
not_less Equal h = refl
not_less Greater h = refl

module _ {K : Type 0} {R : K → K → Ordering} (total : IsTotalOrder R) where
  -- what isn't behind the last is before what is behind it
  before_too : (last other key : K) → R last key ≡ Less → is_lt (R last other) ≡ false → R other key ≡ Less
  before_too last other key less not_below = by (R last other) refl not_below
    where
      by : (o : Ordering) → R last other ≡ o → is_lt o ≡ false → R other key ≡ Less
      by Less is h = cc
      by Equal is h = sym (total.congr last other key is) ∙ less
      by Greater is h = total.trans other last key (total.antisymm other last ∙ ap ordering_reverse is) less

  all_before : (last key : K) → R last key ≡ Less → (ks : List K) → All (λ other. is_lt (R last other) ≡ false) ks
      → list_all (λ other. is_lt (R other key)) ks ≡ true
  all_before last key less [] all = refl
  all_before last key less (k ∷ ks) all =
      both_of (is_lt (R k key)) (list_all (λ other. is_lt (R other key)) ks)
      (ap is_lt (before_too last k key less (All-head (λ other. is_lt (R last other) ≡ false) k ks all)))
      (all_before last key less ks (All-tail (λ other. is_lt (R last other) ≡ false) k ks all))

one_fails : {K X : Type 0} (R : K → K → Ordering) (key : K) (es : List (K × X)) (place : ℕ) (last : K × X)
    → slice_get es place ≡ Some last → is_lt (R last.0 key) ≡ false → list_all (λ other. is_lt (R other key)) (keys_of es) ≡ false
one_fails R key [] place last is fails = cc
one_fails {K = K} {X = X} R key (e ∷ es) zero last is fails =
    let same : e ≡ last = cc in
    not_left (is_lt (R e.0 key)) (list_all (λ other. is_lt (R other key)) (keys_of es)) (ap (λ (x : K × X). is_lt (R x.0 key)) same ∙ fails)
one_fails R key (e ∷ es) (suc place) last is fails =
    not_right (is_lt (R e.0 key)) (list_all (λ other. is_lt (R other key)) (keys_of es)) (one_fails R key es place last is fails)

module _ {K X : Type 0} {R : K → K → Ordering} where
  -- a key is behind all where it is behind the last
  pub last_decides : IsTotalOrder R → (key : K) (es : List (K × X)) (place : ℕ) (last : K × X) → slice_get es place ≡ Some last
      → All (λ other. is_lt (R last.0 other) ≡ false) (keys_of es) → (o : Ordering) → R last.0 key ≡ o
      → is_lt o ≡ list_all (λ other. is_lt (R other key)) (keys_of es)
  last_decides total key es place last is all Less at = sym (all_before total last.0 key at (keys_of es) all)
  last_decides total key es place last is all Equal at = sym (one_fails R key es place last is (ap is_lt at))
  last_decides total key es place last is all Greater at = sym (one_fails R key es place last is (ap is_lt at))

  -- an entry behind all others goes to the end
  pub insert-last : IsTotalOrder R → (es : List (K × X)) (k : K) (v : X) → list_all (λ other. is_lt (R other k)) (keys_of es) ≡ true
      → insert_entry R es k v ≡ es ++ (k, v) ∷ []
  insert-last total [] k v all = refl
  insert-last total (e ∷ es) k v all =
      let first : R e.0 k ≡ Less = is_less (R e.0 k) (left_of (is_lt (R e.0 k)) (list_all (λ other. is_lt (R other k)) (keys_of es)) all) in
      let greater : R k e.0 ≡ Greater = total.antisymm k e.0 ∙ ap ordering_reverse first in
      let rest : list_all (λ other. is_lt (R other k)) (keys_of es) ≡ true = right_of (is_lt (R e.0 k)) (list_all (λ other. is_lt (R other k)) (keys_of es)) all in
      ap (λ o. match_ordering o ((k, v) ∷ e ∷ es) ((e.0, v) ∷ es) (e ∷ insert_entry R es k v)) greater
      ∙ ap (λ l. e ∷ l) (insert-last total es k v rest)

-- the keys of rows are those of their entries
pub rising_rows : {K X Row : Type 0} (R : K → K → Ordering) (C : Row → Row → Ordering) (row : K × X → Row) (key : K) (other : Row)
    → ((e : K × X) → C (row e) other ≡ R e.0 key) → (es : List (K × X))
    → list_all (λ r. is_lt (C r other)) (map row es) ≡ list_all (λ k. is_lt (R k key)) (keys_of es)
rising_rows R C row key other same [] = refl
rising_rows R C row key other same (e ∷ es) =
    ap (λ o. is_lt o && list_all (λ r. is_lt (C r other)) (map row es)) (same e)
    ∙ ap (λ b. is_lt (R e.0 key) && b) (rising_rows R C row key other same es)
