-- Two books choose the same at a position just where they choose it for each key: a released book chooses at most one.
use Rattle.std.proofs.Common.{◌≡◌, ℕ, ◌≤◌, Bool, true, false, not, ◌&&◌, ◌||◌, List, [], ◌∷◌, ◌++◌, length, map, refl, sym, ap, subst, ◌∙◌, inl, inr, arith, append_assoc, append-nil}
use Rattle.std.specs.List.{list_any, filter}
use Rattle.std.proofs.lemmas.Bool.{cases_Bool, or_parts, or_from, false≢true, true≢false}
use Rattle.std.proofs.lemmas.List.Folds.{list_any-append}
use Rattle.std.proofs.Math.Bool.{or-false, or_assoc}
use Rattle.book_model.specs.Contents.{Contents}
use Rattle.clause_pool.specs.Literal.{is_true}
use Rattle.clausify.specs.declared.usage.Usage.{Usage}
use Rattle.chosen_parts.specs.Chosen.{part_use, is_same_use}
use Rattle.chosen_parts.specs.declared.part_use.PartUse.{PartUse}
use Rattle.chosen_parts.proofs.UseLaws.{same_from_test, test_from_same}
use Rattle.book_compare.specs.Asked.{uses, new_keys, keys_of, literals_with, key_literals}
use Rattle.book_compare.specs.Keys.{KeyLiterals}
use Rattle.book_compare.proofs.KeyLaws.{chooses_first, chooses_second, differs}
use Rattle.pb_base.proofs.PickLaws.{either_true}
use Rattle.book_compare.proofs.UsageLaws.{has_use}

same_self : (p : PartUse) → is_same_use p p ≡ true
same_self p = test_from_same p p refl

-- what is the same ps one that is among some is among them
seen_then : (k key : PartUse) (seen : List PartUse) → is_same_use k key ≡ true → list_any (λ p. is_same_use k p) seen ≡ true → has_use key seen ≡ true
seen_then k key [] same there = there
seen_then k key (p ∷ seen) same there = elim (cases_Bool (is_same_use k p)) [
  | inl e ↦ rw (test_from_same p key (sym (same_from_test k p e) ∙ same_from_test k key same)) refl
  | inr e ↦ either_true (is_same_use p key) (has_use key seen) (seen_then k key seen same (rw e at there))
]

-- all uses are among the keys
pub all_new : (key : PartUse) (seen xs : List PartUse) → (has_use key seen || has_use key xs) ≡ true → has_use key (seen ++ new_keys seen xs) ≡ true
all_new key seen [] some = ap (has_use key) (append-nil seen) ∙ sym (or-false (has_use key seen)) ∙ some
all_new key seen (k ∷ ks) some = elim (cases_Bool (list_any (λ p. is_same_use k p) seen)) [
  | inl old ↦
      rw old
      (all_new key seen ks (elim (cases_Bool (is_same_use k key)) [
        | inl same ↦ rw (seen_then k key seen same old) refl
        | inr other ↦ rw other at some
      ]))
  | inr new ↦ rw (new, ← append_assoc seen (k ∷ []) (new_keys (seen ++ k ∷ []) ks)) (all_new key (seen ++ k ∷ []) ks (rw (list_any-append, or-false, or_assoc) some))
]

pub first_in_keys : (key : PartUse) (first second : List PartUse) → has_use key first ≡ true → has_use key (keys_of first second) ≡ true
first_in_keys key first second there =
    all_new key (new_keys [] first) second (ap (λ t. t || has_use key second) (all_new key [] first there))

pub second_in_keys : (key : PartUse) (first second : List PartUse) → has_use key second ≡ true → has_use key (keys_of first second) ≡ true
second_in_keys key first second there = all_new key (new_keys [] first) second (either_true (has_use key (new_keys [] first)) (has_use key second) there)

-- a literal with a key is that of a variant which uses it
pub literal_use : (b : Contents) (test : ℕ → Bool) (us : List Usage) (key : PartUse) → list_any test (literals_with b us key) ≡ true → has_use key (uses b us) ≡ true
literal_use b test [] key some = some
literal_use b test (u ∷ us) key some = elim (cases_Bool (is_same_use (part_use b u.variant) key)) [
  | inl same ↦ rw same refl
  | inr other ↦ rw other (literal_use b test us key (rw other at some))
]

same_when_alike : (p q : Bool) → ((p && not q) || (not p && q)) ≡ false → p ≡ q
same_when_alike p q h = grind arith

alike_when_same : (p q : Bool) → p ≡ q → ((p && not q) || (not p && q)) ≡ false
alike_when_same p q h = grind arith

-- where the books differ by no key, they choose each alike
key_alike : (a : ℕ → Bool) (literals : PartUse → KeyLiterals) (key : PartUse) (ks : List PartUse) → list_any (differs a) (map literals ks) ≡ false → has_use key ks ≡ true
    → chooses_first a (literals key) ≡ chooses_second a (literals key)
key_alike a literals key [] none there = absurd (false≢true there)
key_alike a literals key (k ∷ ks) none there =
    let parts = or_parts (differs a (literals k)) (list_any (differs a) (map literals ks)) none in
    elim (cases_Bool (is_same_use k key)) [
      | inl same ↦ rw (← same_from_test k key same) (same_when_alike (chooses_first a (literals k)) (chooses_second a (literals k)) parts.0)
      | inr other ↦ key_alike a literals key ks parts.1 (rw other at there)
    ]

pub none_differs : (a : ℕ → Bool) (literals : PartUse → KeyLiterals) (ks : List PartUse) → ((key : PartUse) → chooses_first a (literals key) ≡ chooses_second a (literals key))
    → list_any (differs a) (map literals ks) ≡ false
none_differs a literals [] same = refl
none_differs a literals (k ∷ ks) same =
    or_from (differs a (literals k)) (list_any (differs a) (map literals ks)) (alike_when_same (chooses_first a (literals k)) (chooses_second a (literals k)) (same k)) (none_differs a literals ks same)

same_lists : (ps qs : List PartUse) → length ps ≤ 1 → length qs ≤ 1 → ((key : PartUse) → has_use key ps ≡ true → has_use key ps ≡ has_use key qs)
    → ((key : PartUse) → has_use key qs ≡ true → has_use key ps ≡ has_use key qs) → ps ≡ qs
same_lists [] [] few fewer from_first from_second = refl
same_lists [] (q ∷ []) few fewer from_first from_second = let there : has_use q (q ∷ []) ≡ true = rw (same_self q) refl in absurd (false≢true (from_second q there ∙ there))
same_lists (p ∷ []) [] few fewer from_first from_second = let there : has_use p (p ∷ []) ≡ true = rw (same_self p) refl in absurd (true≢false (sym there ∙ from_first p there))
same_lists (p ∷ []) (q ∷ []) few fewer from_first from_second =
    let there : has_use p (p ∷ []) ≡ true = rw (same_self p) refl in
    let other : is_same_use q p ≡ true = sym (or-false (is_same_use q p)) ∙ sym (from_first p there) ∙ there in
    ap (λ (u : PartUse). u ∷ []) (sym (same_from_test q p other))
same_lists (p ∷ r ∷ ps) qs few fewer from_first from_second = absurd (omega arith)
same_lists [] (q ∷ r ∷ qs) few fewer from_first from_second = absurd (omega arith)
same_lists (p ∷ []) (q ∷ r ∷ qs) few fewer from_first from_second = absurd (omega arith)

module _ (a : ℕ → Bool) (first : Contents) (us : List Usage) (second : Contents) (ws : List Usage) (ps qs : List PartUse)
    (chosen_first : (key : PartUse) → list_any (is_true a) (literals_with first us key) ≡ has_use key ps)
    (chosen_second : (key : PartUse) → list_any (is_true a) (literals_with second ws key) ≡ has_use key qs) where
  abbrev ks : List PartUse
  ks = keys_of (uses first us) (uses second ws)

  by_key : (key : PartUse) → list_any (differs a) (map (key_literals first us second ws) ks) ≡ false → has_use key ks ≡ true → has_use key ps ≡ has_use key qs
  by_key key none there = sym (chosen_first key) ∙ key_alike a (key_literals first us second ws) key ks none there ∙ chosen_second key

  -- the same for each key, and so the same
  pub same_when_none : length ps ≤ 1 → length qs ≤ 1 → list_any (differs a) (map (key_literals first us second ws) ks) ≡ false → ps ≡ qs
  same_when_none few fewer none =
      same_lists ps qs few fewer
      (λ key there. by_key key none (first_in_keys key (uses first us) (uses second ws) (literal_use first (is_true a) us key (chosen_first key ∙ there))))
      (λ key there. by_key key none (second_in_keys key (uses first us) (uses second ws) (literal_use second (is_true a) ws key (chosen_second key ∙ there))))

  -- the same, and so the same for each key
  pub none_when_same : ps ≡ qs → list_any (differs a) (map (key_literals first us second ws) ks) ≡ false
  none_when_same same = none_differs a (key_literals first us second ws) ks (λ key. chosen_first key ∙ ap (has_use key) same ∙ sym (chosen_second key))
