-- What stands on the first part of a trail.
use Rattle.std.proofs.Common.{◌≡◌, ◌⊎◌, inl, inr, ℕ, zero, suc, ◌+◌, ◌/◌, ◌<◌, ◌≤◌, true, false, List, [], ◌∷◌, ◌++◌, length, map, take, get_or, eqb, nat_lt, refl, sym, subst, ◌∙◌, ap, arith}
use Rattle.std.proofs.lemmas.Bool.{cases_order, cases_Bool, true≢false, lt-ltb, le-ltb, eq-eqb}
use Rattle.std.proofs.lemmas.List.{get_or-map, length-map, get_or-take, length-take, take_more}
use Rattle.std.proofs.lemmas.Map.Keys.{apart_from_distinct}
use Rattle.clause_pool.specs.Clause.{has}
use Rattle.propagate.specs.Assignment.{Assigned, IsAssigned}
use Rattle.propagate.proofs.AssignmentLaws.{has_place, has_push}
use Rattle.propagate.proofs.QuietLaws.{has_take}
use Rattle.propagate.proofs.KeepLaws.{has_at}

pub not_before : (n : ℕ) (lits : List ℕ) (l : ℕ) → has lits l ≡ false → has (take n lits) l ≡ false
not_before n lits l h = elim (cases_Bool (has (take n lits) l)) [
  | inl found ↦ absurd (true≢false (sym (has_take n lits l found) ∙ h))
  | inr none ↦ none
]

-- a variable has one place
pub one_place : (a : Assigned) (i j : ℕ) → IsAssigned a → i < length a.lits → j < length a.lits → get_or a.lits i 0 / 2 ≡ get_or a.lits j 0 / 2 → i ≡ j
one_place a i j h low high same = elim (cases_order i j) [
  | inl e ↦ e
  | inr o ↦ elim o [
    | inl before ↦ absurd (clash i j before high same)
    | inr after ↦ absurd (clash j i after low (sym same))
  ]
] where
  clash : (n m : ℕ) → n < m → m < length a.lits → get_or a.lits n 0 / 2 ≡ get_or a.lits m 0 / 2 → ⊥
  clash n m less within e =
      let apart = apart_from_distinct eqb (map (λ (l : ℕ). l / 2) a.lits) n m 0 h.apart less (omega (arith, within, length-map a.lits (λ (l : ℕ). l / 2))) in
      let first : get_or (map (λ (l : ℕ). l / 2) a.lits) n 0 ≡ get_or a.lits n 0 / 2 = get_or-map (λ (l : ℕ). l / 2) a.lits n 0 0 (omega (arith, less, within)) in
      let second : get_or (map (λ (l : ℕ). l / 2) a.lits) m 0 ≡ get_or a.lits m 0 / 2 = get_or-map (λ (l : ℕ). l / 2) a.lits m 0 0 within in
      true≢false (sym (eq-eqb _ _ (first ∙ e ∙ sym second)) ∙ apart)

-- whether a literal stands before a place, by its own
pub before_place : (a : Assigned) (l place end : ℕ) → IsAssigned a → has a.lits l ≡ true → place < length a.lits → get_or a.lits place 0 / 2 ≡ l / 2 → nat_lt place end ≡ has (take end a.lits) l
before_place a l place end h is_in within half =
    let found = has_place a.lits l is_in in
    let same : place ≡ found.0 = one_place a place found.0 h within found.1 (half ∙ sym (ap (λ (n : ℕ). n / 2) found.2)) in
    let here : get_or a.lits place 0 ≡ l = ap (λ (k : ℕ). get_or a.lits k 0) same ∙ found.2 in
    elim (cases_below place end) [
      | inl less ↦ lt-ltb place end less ∙ sym (has_at (take end a.lits) place l (omega (arith, less, within, length-take end a.lits)) (get_or-take end a.lits place 0 less ∙ here))
      | inr more ↦ le-ltb place end more ∙ sym (none_before more)
    ]
  where
    cases_below : (n m : ℕ) → (n < m) ⊎ (m ≤ n)
    cases_below n zero = inr (omega arith)
    cases_below zero (suc m) = inl (omega arith)
    cases_below (suc n) (suc m) = elim (cases_below n m) [ inl x ↦ inl (omega (arith, x)) | inr x ↦ inr (omega (arith, x)) ]

    none_before : end ≤ place → has (take end a.lits) l ≡ false
    none_before more = elim (cases_Bool (has (take end a.lits) l)) [
      | inr none ↦ none
      | inl early ↦
          let found = has_place (take end a.lits) l early in
          let b : found.0 < length (take end a.lits) = found.1 in
          let low : found.0 < end = omega (arith, b, length-take end a.lits) in
          let inside : found.0 < length a.lits = omega (arith, b, length-take end a.lits) in
          let there : get_or a.lits found.0 0 ≡ l = sym (get_or-take end a.lits found.0 0 low) ∙ found.2 in
          let same = one_place a place found.0 h within inside (half ∙ sym (ap (λ (n : ℕ). n / 2) there)) in
          absurd (omega (arith, same, low, more))
    ]

-- an item that a loop has come to
pub item_in : (c : List ℕ) (i l : ℕ) → i < length c → l ≡ get_or c i l → has c l ≡ true
item_in c i l within at = has_at c i l within (no_default c i 0 l within ∙ sym at) where
  no_default : (xs : List ℕ) (n d e : ℕ) → n < length xs → get_or xs n d ≡ get_or xs n e
  no_default [] n d e b = absurd (omega arith)
  no_default (y ∷ xs) zero d e b = refl
  no_default (y ∷ xs) (suc n) d e b = no_default xs n d e (omega (arith, b))

pub one_more_item : (c : List ℕ) (i l x : ℕ) → i < length c → l ≡ get_or c i l → has (take (i + 1) c) x ≡ true → (has (take i c) x ≡ true) ⊎ (l ≡ x)
one_more_item c i l x within at h =
    has_push (take i c) l x (subst (λ (xs : List ℕ). has xs x ≡ true) (take_more c i l within ∙ ap (λ (y : ℕ). take i c ++ y ∷ []) (sym at)) h)
