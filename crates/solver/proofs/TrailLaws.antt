-- What holds of trails.
use Rattle.std.proofs.Common.{◌≡◌, inl, inr, ℕ, zero, suc, ◌-◌, ◌/◌, ◌<◌, ◌≤◌, true, List, [], ◌∷◌, None, length, map, take, get_or, eqb, refl, sym, ◌∙◌, ap, arith}
use Rattle.std.specs.List.{list_any}
use Rattle.std.proofs.lemmas.Bool.{cases_order, false≢true, true≢false, or_cases, or_left, or_right, eq-eqb, eqb-true}
use Rattle.std.proofs.lemmas.List.{get_or-map, length-map, get_or-take}
use Rattle.std.proofs.lemmas.Map.Keys.{apart_from_distinct}
use Rattle.std.proofs.lemmas.Map.Steps.{length-le_from_distinct_below}
use Rattle.std.proofs.Math.ListN.{get_or-eq_default}
use Rattle.clause_pool.specs.Literal.{complement}
use Rattle.clause_pool.specs.Clause.{has}
use Rattle.clause_pool.proofs.LiteralLaws.{complement-half, complement-other}
use Rattle.propagate.specs.Trail.{Trail, IsTrail, level, end_of}
use Rattle.propagate.proofs.AssignmentLaws.{has_place}
use Rattle.propagate.proofs.KeepLaws.{has_at, same_default}

length-take-min : (n : ℕ) (xs : List ℕ) → (length (take n xs) ≤ n) × (length (take n xs) ≤ length xs)
length-take-min zero xs = (omega arith, omega arith)
length-take-min (suc n) [] = (omega arith, omega arith)
length-take-min (suc n) (x ∷ xs) = let rest = length-take-min n xs in (omega (arith, rest.0), omega (arith, rest.1))

-- a literal of a trail's first part has a place there
pub record IsPlaced (lits : List ℕ) (end l : ℕ) : Type 0 where
  pub place : ℕ
  pub before : place < end
  pub within : place < length lits
  pub is : get_or lits place 0 ≡ l

pub placed_in : (lits : List ℕ) (end l : ℕ) → has (take end lits) l ≡ true → IsPlaced lits end l
placed_in lits end l h =
    let p = has_place (take end lits) l h in
    let low : p.0 < length (take end lits) = p.1 in
    let bound = length-take-min end lits in
    let before : p.0 < end = omega (arith, low, bound.0, bound.1) in
    record {
      place = p.0;
      before = before;
      within = omega (arith, low, bound.0, bound.1);
      is = sym (get_or-take end lits p.0 0 before) ∙ p.2;
    }

-- and the other way round
pub has_placed : (lits : List ℕ) (end k l : ℕ) → k < end → k < length lits → get_or lits k 0 ≡ l → has (take end lits) l ≡ true
has_placed [] end k l low within is = absurd (omega arith)
has_placed (x ∷ xs) zero k l low within is = absurd (omega arith)
has_placed (x ∷ xs) (suc end) zero l low within is = has_at (x ∷ take end xs) 0 l (omega arith) is
has_placed (x ∷ xs) (suc end) (suc k) l low within is = or_right (eqb x l) (has (take end xs) l) (has_placed xs end k l (omega arith) (omega arith) is)

-- a longer part of the trail has what a shorter one has
pub has_longer : (lits : List ℕ) (n m l : ℕ) → n ≤ m → has (take n lits) l ≡ true → has (take m lits) l ≡ true
has_longer lits n m l low h = let p = placed_in lits n l h in has_placed lits m p.place l (let b = p.before in omega (arith, low, b)) p.within p.is

-- a variable has one place
pub same_place : (t : Trail) (i j : ℕ) → IsTrail t → i < length t.lits → j < length t.lits → get_or t.lits i 0 / 2 ≡ get_or t.lits j 0 / 2 → i ≡ j
same_place t i j h low high same = elim (cases_order i j) [
  | inl e ↦ e
  | inr o ↦ elim o [
    | inl before ↦ absurd (clash i j before high same)
    | inr after ↦ absurd (clash j i after low (sym same))
  ]
] where
  clash : (n m : ℕ) → n < m → m < length t.lits → get_or t.lits n 0 / 2 ≡ get_or t.lits m 0 / 2 → ⊥
  clash n m less within e =
      let apart = apart_from_distinct eqb (map (λ (l : ℕ). l / 2) t.lits) n m 0 h.apart less (omega (arith, within, length-map t.lits (λ (l : ℕ). l / 2))) in
      let first : get_or (map (λ (l : ℕ). l / 2) t.lits) n 0 ≡ get_or t.lits n 0 / 2 = get_or-map (λ (l : ℕ). l / 2) t.lits n 0 0 (omega (arith, less, within)) in
      let second : get_or (map (λ (l : ℕ). l / 2) t.lits) m 0 ≡ get_or t.lits m 0 / 2 = get_or-map (λ (l : ℕ). l / 2) t.lits m 0 0 within in
      true≢false (sym (eq-eqb _ _ (first ∙ e ∙ sym second)) ∙ apart)

-- no literal is true and false
pub consistent : (t : Trail) (l : ℕ) → IsTrail t → has t.lits l ≡ true → has t.lits (complement l) ≡ true → ⊥
consistent t l h holds fails =
    let p = has_place t.lits l holds in
    let q = has_place t.lits (complement l) fails in
    let halves : get_or t.lits p.0 0 / 2 ≡ get_or t.lits q.0 0 / 2 = ap (λ (n : ℕ). n / 2) p.2 ∙ sym (complement-half l) ∙ sym (ap (λ (n : ℕ). n / 2) q.2) in
    let same = same_place t p.0 q.0 h p.1 q.1 halves in
    complement-other l (sym q.2 ∙ sym (ap (λ (k : ℕ). get_or t.lits k 0) same) ∙ p.2)

half_found : (lits : List ℕ) (q : ℕ) → list_any (eqb q) (map (λ x. x / 2) lits) ≡ true → (l : ℕ) × (has lits l ≡ true) × (l / 2 ≡ q)
half_found [] q h = absurd (false≢true h)
half_found (x ∷ lits) q h = elim (or_cases (eqb q (x / 2)) (list_any (eqb q) (map (λ x. x / 2) lits)) h) [
  | inl first ↦ (x, or_left (eqb x x) (has lits x) (eq-eqb x x refl), sym (eqb-true q (x / 2) first))
  | inr later ↦ let found = half_found lits q later in (found.0, or_right (eqb x found.0) (has lits found.0) found.1, found.2)
]

-- there are no more literals than variables
pub few_literals : (t : Trail) → IsTrail t → length t.lits ≤ t.vars
few_literals t h =
    let c = length-le_from_distinct_below (map (λ (l : ℕ). l / 2) t.lits) t.vars h.apart
    (λ q is_in. let found = half_found t.lits q is_in in let low = h.below found.0 found.1 in omega (arith, low, found.2)) in
    omega (arith, c, length-map t.lits (λ (l : ℕ). l / 2))

pub end_within : (t : Trail) (n : ℕ) → IsTrail t → end_of t n ≤ length t.lits
end_within t n h = elim (cases_order n (level t)) [
  | inl e ↦ let d : end_of t n ≡ length t.lits = get_or-eq_default t.starts (length t.lits) (omega (arith, e)) in omega (arith, d)
  | inr o ↦ elim o [
    | inl before ↦ let w = h.within n before in omega (arith, w, same_default t.starts n (length t.lits) 0 before)
    | inr after ↦ let d : end_of t n ≡ length t.lits = get_or-eq_default t.starts (length t.lits) (omega (arith, after)) in omega (arith, d)
  ]
]

pub ends_rise : (t : Trail) (n m : ℕ) → IsTrail t → m ≤ n → end_of t m ≤ end_of t n
ends_rise t n m h below = elim (cases_order n (level t)) [
  | inl e ↦ let d : end_of t n ≡ length t.lits = get_or-eq_default t.starts (length t.lits) (omega (arith, e)) in let w = end_within t m h in omega (arith, d, w)
  | inr o ↦ elim o [
    | inl before ↦
        let r = h.rising m n below before in
        omega (arith, r, same_default t.starts n (length t.lits) 0 before, same_default t.starts m (length t.lits) 0 (omega (arith, before, below)))
    | inr after ↦ let d : end_of t n ≡ length t.lits = get_or-eq_default t.starts (length t.lits) (omega (arith, after)) in let w = end_within t m h in omega (arith, d, w)
  ]
]

-- what stands behind the start of a level and isn't its first has a reason
pub has_reason : (t : Trail) (k : ℕ) → IsTrail t → end_of t (level t - 1) < k → k < length t.lits → get_or t.reasons k None ≡ None → ⊥
has_reason t k h late within none =
    let d = h.decided k within none in
    let low : d.0 < length t.starts = d.1 in
    let is : get_or t.starts d.0 0 ≡ k = d.2 in
    let r = h.rising d.0 (level t - 1) (omega (arith, low)) (omega (arith, low)) in
    let e = same_default t.starts (level t - 1) (length t.lits) 0 (omega (arith, low)) in
    absurd (omega (arith, r, is, e, late))
