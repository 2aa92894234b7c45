-- How many clauses can be new one after the other: each has a number in base 3, a digit for each variable.
use Rattle.std.proofs.Common.{◌≡◌, ◌⊎◌, inl, inr, ℕ, zero, suc, ◌+◌, ◌*◌, ◌/◌, ◌^◌, ◌<◌, ◌≤◌, Bool, true, false, List, [], ◌∷◌, ◌++◌, length, map, take, get_or, eqb, cond, refl, sym, subst, ◌∙◌, ap, arith}
use Rattle.std.proofs.Math.Nat.{pow-suc}
use Rattle.std.specs.List.{IsDistinct, list_any}
use Rattle.std.proofs.lemmas.Bool.{cases_Bool, cases_eq, cases_order, false≢true, eqb-true, ne_eqb, or_cases}
use Rattle.std.proofs.lemmas.List.{length-map, get_or-map, get_or-take, length-take-le}
use Rattle.std.proofs.lemmas.Map.Keys.{IsDistinct-from_apart}
use Rattle.std.proofs.lemmas.Map.Steps.{length-le_from_distinct_below}
use Rattle.clause_pool.specs.Literal.{complement}
use Rattle.clause_pool.specs.Clause.{has, AreBelow}
use Rattle.clause_pool.proofs.LiteralLaws.{even_or_odd, complement-positive, complement-complement}
use Rattle.clause_pool.proofs.ClauseLaws.{all_at}
use Rattle.propagate.specs.Quiet.{Quiet, IsQuietFor}
use Rattle.solver.specs.Answer.{AreHeld, IsNew, IsSpent}
use Rattle.solver.proofs.EndLaws.{all_first, all_second}
use Rattle.solver.proofs.PoolLaws.{clause_below}

-- the digit of a variable: 0 where the clause doesn't have it, else by its sign
abbrev digit : List ℕ → ℕ → ℕ
digit c v = cond (has c (2 * v)) 1 (cond (has c (2 * v + 1)) 2 0)

-- the number of a clause over the variables below n
abbrev number : List ℕ → ℕ → ℕ
number c zero = 0
number c (suc n) = digit c n + 3 * number c n

digit_below : (c : List ℕ) (v : ℕ) → digit c v < 3
digit_below c v = go (has c (2 * v)) (has c (2 * v + 1)) where
  go : (p q : Bool) → cond p 1 (cond q 2 0) < 3
  go true q = omega arith
  go false true = omega arith
  go false false = omega arith

number_below : (c : List ℕ) (n : ℕ) → number c n < 3 ^ n
number_below c zero = omega arith
number_below c (suc n) = let d = digit_below c n in let m = number_below c n in rw pow-suc (omega (arith, d, m))

digits_of : (c d : List ℕ) (n : ℕ) → number c n ≡ number d n → (v : ℕ) → v < n → digit c v ≡ digit d v
digits_of c d zero e v low = absurd (omega (arith, low))
digits_of c d (suc n) e v low =
    let p = digit_below c n in
    let q = digit_below d n in
    elim (cases_eq v n) [
      | inl same ↦ ap (digit c) same ∙ omega (arith, e, p, q) ∙ sym (ap (digit d) same)
      | inr other ↦ digits_of c d n (omega (arith, e, p, q)) v (omega (arith, low, other))
    ]

-- a clause that doesn't have a literal and its complement
abbrev HasNoPair : List ℕ → Type 0
HasNoPair c = (v : ℕ) → has c (2 * v) ≡ true → has c (2 * v + 1) ≡ true → ⊥

digit_tells : (p q r s : Bool) → (p ≡ true → q ≡ true → ⊥) → (r ≡ true → s ≡ true → ⊥) → ◌≡◌ {A = ℕ} (cond p 1 (cond q 2 0)) (cond r 1 (cond s 2 0)) → (p ≡ r) × (q ≡ s)
digit_tells true true r s f g e = absurd (f refl refl)
digit_tells p q true true f g e = absurd (g refl refl)
digit_tells true false true false f g e = (refl, refl)
digit_tells true false false true f g e = absurd (omega (arith, e))
digit_tells true false false false f g e = absurd (omega (arith, e))
digit_tells false true true false f g e = absurd (omega (arith, e))
digit_tells false true false true f g e = (refl, refl)
digit_tells false true false false f g e = absurd (omega (arith, e))
digit_tells false false true false f g e = absurd (omega (arith, e))
digit_tells false false false true f g e = absurd (omega (arith, e))
digit_tells false false false false f g e = (refl, refl)

same_literals : (c d : List ℕ) (n l : ℕ) → HasNoPair c → HasNoPair d → number c n ≡ number d n → l < 2 * n → has c l ≡ has d l
same_literals c d n l f g e low =
    let both = digit_tells (has c (2 * (l / 2))) (has c (2 * (l / 2) + 1)) (has d (2 * (l / 2))) (has d (2 * (l / 2) + 1)) (f (l / 2)) (g (l / 2)) (digits_of c d n e (l / 2) (omega (arith, low))) in
    elim (even_or_odd l) [
      | inl even ↦ let is : l ≡ 2 * (l / 2) = omega (arith, even) in ap (has c) is ∙ both.0 ∙ sym (ap (has d) is)
      | inr odd ↦ let is : l ≡ 2 * (l / 2) + 1 = omega (arith, odd) in ap (has c) is ∙ both.1 ∙ sym (ap (has d) is)
    ]

no_pair : (clauses : List (List ℕ)) (a c : List ℕ) → IsNew clauses a c → HasNoPair c
no_pair clauses a c h v even odd =
    let x : ℕ = h.open_literal in
    let minus : complement (2 * v) ≡ 2 * v + 1 = complement-positive v in
    let plus : complement (2 * v + 1) ≡ 2 * v = sym (ap complement minus) ∙ complement-complement (2 * v) in
    elim (cases_eq (2 * v) h.open_literal) [
      | inl e ↦ h.not_true (ap (has h.quiet_set) (sym e ∙ sym plus) ∙ h.others_false (2 * v + 1) odd (λ same. absurd (omega (arith, e, same))))
      | inr other ↦ elim (cases_eq (2 * v + 1) h.open_literal) [
        | inl e ↦ h.not_true (ap (has h.quiet_set) (sym e ∙ sym minus) ∙ h.others_false (2 * v) even other)
        | inr ne ↦ h.quiet.consistent (2 * v) (ap (has h.quiet_set) (sym plus) ∙ h.others_false (2 * v + 1) odd ne) (h.others_false (2 * v) even other)
      ]
    ]

-- no clause before has the same literals
not_before : (clauses : List (List ℕ)) (a c d : List ℕ) (h : IsNew clauses a c) → IsQuietFor h.quiet_set d → ((l : ℕ) → has c l ≡ has d l) → ⊥
not_before clauses a c d h q same =
    h.not_true (q.unit_true h.open_literal (sym (same h.open_literal) ∙ h.is_in) (λ l is_in other. h.others_false l (same l ∙ is_in) other))

-- a literal past the bound is in no clause
past_bound : (bound : ℕ) (clauses : List (List ℕ)) (k l : ℕ) → AreBelow bound clauses → bound ≤ l → has (get_or clauses k []) l ≡ false
past_bound bound clauses k l all high = elim (cases_Bool (has (get_or clauses k []) l)) [
  | inl is_in ↦ let low = clause_below bound clauses k l all is_in in absurd (omega (arith, low, high))
  | inr none ↦ none
]

le_or_lt : (a b : ℕ) → (a ≤ b) ⊎ (b < a)
le_or_lt a b = elim (cases_order a b) [
  | inl e ↦ inl (omega (arith, e))
  | inr o ↦ elim o [ inl less ↦ inl (omega (arith, less)) | inr more ↦ inr more ]
]

any_below : (f : List ℕ → ℕ) (bound q : ℕ) (cs : List (List ℕ)) → ((c : List ℕ) → f c < bound) → list_any (eqb q) (map f cs) ≡ true → q < bound
any_below f bound q [] low found = absurd (false≢true found)
any_below f bound q (c ∷ cs) low found = elim (or_cases (eqb q (f c)) (list_any (eqb q) (map f cs)) found) [
  | inl first ↦ let l = low c in let e = eqb-true q (f c) first in omega (arith, l, e)
  | inr later ↦ any_below f bound q cs low later
]

module _ (vars : ℕ) (given : List (List ℕ)) (a : List ℕ) (budget : ℕ) (learnt : List (List ℕ)) (spent : IsSpent vars given a budget learnt) where
  apart : (i j : ℕ) → i < j → j < budget → number (get_or learnt i []) vars ≡ number (get_or learnt j []) vars → ⊥
  apart i j less within e =
      let count = spent.count in
      let later = (spent.each j within).is_new in
      let earlier = (spent.each i (omega (arith, less, within))).is_new in
      let front : get_or (take j learnt) i [] ≡ get_or learnt i [] = get_or-take j learnt i [] (omega (arith, less)) in
      let quiet = all_at (IsQuietFor later.quiet_set) (take j learnt) [] i (all_second (IsQuietFor later.quiet_set) given (take j learnt) later.quiet.each)
      (omega (arith, less, length-take-le j learnt (omega (arith, within, count)))) in
      not_before (given ++ take j learnt) a (get_or learnt j []) (get_or learnt i []) later (subst (IsQuietFor later.quiet_set) front quiet)
      (λ l. elim (le_or_lt (2 * vars) l) [
        | inl high ↦ past_bound (2 * vars) learnt j l spent.below high ∙ sym (past_bound (2 * vars) learnt i l spent.below high)
        | inr low ↦ same_literals (get_or learnt j []) (get_or learnt i []) vars l
            (no_pair (given ++ take j learnt) a (get_or learnt j []) later) (no_pair (given ++ take i learnt) a (get_or learnt i []) earlier) (sym e) low
      ])

-- no more than 3 ^ vars clauses over so many variables are new one after the other
pub spent_within : (vars : ℕ) (given : List (List ℕ)) (a : List ℕ) (budget : ℕ) (learnt : List (List ℕ)) → IsSpent vars given a budget learnt → budget ≤ 3 ^ vars
spent_within vars given a budget learnt spent =
    let count = spent.count in
    let f : List ℕ → ℕ = λ c. number c vars in
    let len : length (map f learnt) ≡ budget = length-map learnt f ∙ count in
    let read : (i : ℕ) (d : ℕ) → i < budget → get_or (map f learnt) i d ≡ number (get_or learnt i []) vars =
    λ i d low. get_or-map f learnt i [] d (omega (arith, low, count)) in
    let distinct : IsDistinct eqb (map f learnt) = IsDistinct-from_apart eqb (map f learnt) (λ i j d less low.
    let high : j < budget = omega (arith, low, len) in
    ne_eqb (get_or (map f learnt) i d) (get_or (map f learnt) j d)
    (λ e. apart vars given a budget learnt spent i j less high (sym (read i d (omega (arith, less, high))) ∙ e ∙ read j d high))) in
    let bound = length-le_from_distinct_below (map f learnt) (3 ^ vars) distinct
    (λ q found. any_below f (3 ^ vars) q learnt (λ c. number_below c vars) found) in
    omega (arith, bound, len)

-- the first of them shows a quiet set of the given clauses that holds the assumptions
pub spent_quiet : (vars : ℕ) (given : List (List ℕ)) (a : List ℕ) (budget : ℕ) (learnt : List (List ℕ)) → IsSpent vars given a budget learnt → 0 < budget
    → (lits : List ℕ) × Quiet given lits × AreHeld a lits
spent_quiet vars given a budget learnt spent some =
    let n = (spent.each 0 some).is_new in (
      n.quiet_set,
      record { consistent = n.quiet.consistent; each = all_first (IsQuietFor n.quiet_set) given (take 0 learnt) n.quiet.each },
      n.assumed,
    )
