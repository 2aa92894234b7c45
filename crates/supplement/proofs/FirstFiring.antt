-- Which rule fires first.
use Rattle.std.proofs.Common.{◌≡◌, ℕ, zero, suc, ◌+◌, ◌<◌, ◌≤◌, Bool, true, false, not, cond, leb, List, [], ◌∷◌, length, get_or, drop, add-one, Option, Some, None, refl, sym, ap, subst, ◌∙◌, ◌⊎◌, inl, inr, arith, All}
use Rattle.std.proofs.lemmas.Bool.{and_parts, not-true, leb-true, leb-false, le-leb, lt-leb, cases_Bool}
use Rattle.std.proofs.lemmas.Option.{none-some, same_Some}
use Rattle.std.proofs.lemmas.List.{drop_more}
use Rattle.std.proofs.lemmas.List.Elements.{All-nil, All-cons, All-head, All-tail, All-get_or}
use Rattle.pb_base.specs.Sets.{has}
use Rattle.book_model.specs.Good.{fires}
use Rattle.book_model.specs.Book.{SupplementFits}
use Rattle.book_model.specs.declared.record.Supplement.{Supplement}
use Rattle.supplement.specs.declared.firing.Firing.{Firing}
use Rattle.supplement.specs.Completion.{firing_at, first_of, first_firing_from}

-- the rule s at a place, as it fires
abbrev pub firing_of : ℕ → Supplement → Firing
firing_of place s = record { rank = s.rank; rule = place; code = s.code }

firing_at_true : (i day : ℕ) (x : List Bool) (s : Supplement) → fires day x s ≡ true → firing_at i day x s ≡ Some (firing_of i s)
firing_at_true i day x s on = ap (λ c. cond c (Some (firing_of i s)) None) on

firing_at_false : (i day : ℕ) (x : List Bool) (s : Supplement) → fires day x s ≡ false → firing_at i day x s ≡ None
firing_at_false i day x s off = ap (λ c. cond c (Some (firing_of i s)) None) off

first_of_none : (o p : Option Firing) → first_of o p ≡ None → (o ≡ None) × (p ≡ None)
first_of_none None p h = (refl, h)
first_of_none (Some f) None h = absurd (none-some f (sym h))
first_of_none (Some f) (Some g) h =
    elim (cases_Bool (leb f.rank g.rank)) [
      | inl yes_ ↦ absurd (none-some f (sym (sym (ap (λ c. cond c (Some f) (Some g)) yes_) ∙ h)))
      | inr no_ ↦ absurd (none-some g (sym (sym (ap (λ c. cond c (Some f) (Some g)) no_) ∙ h)))
    ]

-- what is first of two is one of them
first_of_cases : (o p : Option Firing) → (first_of o p ≡ o) ⊎ (first_of o p ≡ p)
first_of_cases None p = inr refl
first_of_cases (Some f) None = inl refl
first_of_cases (Some f) (Some g) =
    elim (cases_Bool (leb f.rank g.rank)) [
      | inl yes_ ↦ inl (ap (λ c. cond c (Some f) (Some g)) yes_)
      | inr no_ ↦ inr (ap (λ c. cond c (Some f) (Some g)) no_)
    ]

-- where no rule fires first, none fires
pub none_fires : (i day : ℕ) (x : List Bool) (ss : List Supplement) → first_firing_from i day x ss ≡ None → All (λ s. fires day x s ≡ false) ss
none_fires i day x [] h = All-nil (λ s. fires day x s ≡ false)
none_fires i day x (s ∷ ss) h =
    let parts = first_of_none (firing_at i day x s) (first_firing_from (suc i) day x ss) h in
    elim (cases_Bool (fires day x s)) [
      | inl on ↦ absurd (none-some (firing_of i s) (sym (parts.0) ∙ firing_at_true i day x s on))
      | inr off ↦ All-cons (λ t. fires day x t ≡ false) s ss off (none_fires (suc i) day x ss parts.1)
    ]

pub first_firing-none : (i day : ℕ) (x : List Bool) (ss : List Supplement) → All (λ s. fires day x s ≡ false) ss → first_firing_from i day x ss ≡ None
first_firing-none i day x [] none = refl
first_firing-none i day x (s ∷ ss) none =
    let off = firing_at_false i day x s (All-head (λ t. fires day x t ≡ false) s ss none) in
    let later = first_firing-none (suc i) day x ss (All-tail (λ t. fires day x t ≡ false) s ss none) in
    ap (λ o. first_of o (first_firing_from (suc i) day x ss)) off ∙ later

-- the rule at the place i + q fires, as f says
pub record FiresAt (i day : ℕ) (x : List Bool) (ss : List Supplement) (f : Firing) (q : ℕ) (d : Supplement) : Type 0 where
  pub within : q < length ss
  pub on : fires day x (get_or ss q d) ≡ true
  pub is : f ≡ firing_of (i + q) (get_or ss q d)

fires_one_later : (i day : ℕ) (x : List Bool) (s : Supplement) (ss : List Supplement) (f : Firing) (q : ℕ) (d : Supplement) → FiresAt (suc i) day x ss f q d → FiresAt i day x (s ∷ ss) f (suc q) d
fires_one_later i day x s ss f q d at =
    let same : suc i + q ≡ i + suc q = omega arith in
    record { within = omega (arith, at.within); on = at.on; is = at.is ∙ ap (λ n. firing_of n (get_or ss q d)) same }

-- the rule that fires first fires
pub first_fires : (i day : ℕ) (x : List Bool) (ss : List Supplement) (f : Firing) (d : Supplement) → first_firing_from i day x ss ≡ Some f → (q : ℕ) × FiresAt i day x ss f q d
first_fires i day x [] f d h = absurd (none-some f h)
first_fires i day x (s ∷ ss) f d h =
    elim (first_of_cases (firing_at i day x s) (first_firing_from (suc i) day x ss)) [
      | inl first ↦ elim (cases_Bool (fires day x s)) [
        | inl on ↦
            let same = same_Some (firing_of i s) f (sym (firing_at_true i day x s on) ∙ sym first ∙ h) in
            let base : i + 0 ≡ i = omega arith in
            (0, record { within = omega arith; on = on; is = sym same ∙ ap (λ n. firing_of n s) (sym base) })
        | inr off ↦ absurd (none-some f (sym (firing_at_false i day x s off) ∙ sym first ∙ h))
      ]
      | inr rest ↦
          let later = first_fires (suc i) day x ss f d (sym rest ∙ h) in
          (suc (later.0), fires_one_later i day x s ss f later.0 d later.1)
    ]

-- the code of the rule that fires first is absent
pub first_code : (n i day : ℕ) (x : List Bool) (ss : List Supplement) (f : Firing) → All (SupplementFits n) ss → first_firing_from i day x ss ≡ Some f → (f.code < n) × (has x f.code ≡ false)
first_code n i day x [] f fit h = absurd (none-some f h)
first_code n i day x (s ∷ ss) f fit h =
    let found = first_fires i day x (s ∷ ss) f s h in
    let at = found.1 in
    let rule = get_or (s ∷ ss) found.0 s in
    let code : f.code ≡ rule.code = ap (λ g. g.code) at.is in
    let fits = All-get_or (SupplementFits n) (s ∷ ss) found.0 s at.within fit in
    let absent = not-true (has x rule.code) (and_parts _ (not (has x rule.code)) at.on).1 in
    (subst (λ c. c < n) (sym code) fits.code, ap (has x) code ∙ absent)

-- a rule that fires and that no firing rule comes before is the one that fires first
pub record ComesFirst (day : ℕ) (x : List Bool) (ss : List Supplement) (p : ℕ) (d : Supplement) : Type 0 where
  pub within : p < length ss
  pub on : fires day x (get_or ss p d) ≡ true
  pub earlier : (q : ℕ) → q < p → fires day x (get_or ss q d) ≡ true → (get_or ss p d).rank < (get_or ss q d).rank
  pub later : (q : ℕ) → p < q → q < length ss → fires day x (get_or ss q d) ≡ true → (get_or ss p d).rank ≤ (get_or ss q d).rank

comes_first_tail : (day : ℕ) (x : List Bool) (s : Supplement) (ss : List Supplement) (p : ℕ) (d : Supplement) → ComesFirst day x (s ∷ ss) (suc p) d → ComesFirst day x ss p d
comes_first_tail day x s ss p d c = record {
  within = omega (arith, c.within);
  on = c.on;
  earlier = λ q before on. c.earlier (suc q) (omega arith) on;
  later = λ q behind inside on. c.later (suc q) (omega arith) (omega arith) on;
}

keeps_first : (f : Firing) (o : Option Firing) → ((g : Firing) → o ≡ Some g → f.rank ≤ g.rank) → first_of (Some f) o ≡ Some f
keeps_first f None least = refl
keeps_first f (Some g) least = ap (λ c. cond c (Some f) (Some g)) (le-leb f.rank g.rank (least g refl))

yields_to : (o : Option Firing) (g : Firing) → ((f : Firing) → o ≡ Some f → g.rank < f.rank) → first_of o (Some g) ≡ Some g
yields_to None g least = refl
yields_to (Some f) g least = ap (λ c. cond c (Some f) (Some g)) (lt-leb f.rank g.rank (least f refl))

pub first_firing-is : (i day : ℕ) (x : List Bool) (ss : List Supplement) (p : ℕ) (d : Supplement) → ComesFirst day x ss p d → first_firing_from i day x ss ≡ Some (firing_of (i + p) (get_or ss p d))
first_firing-is i day x [] p d c = absurd (omega (arith, c.within))
first_firing-is i day x (s ∷ ss) zero d c =
    let base : i + 0 ≡ i = omega arith in
    let least : (g : Firing) → first_firing_from (suc i) day x ss ≡ Some g → (firing_of i s).rank ≤ g.rank =
    λ g h.
    let found = first_fires (suc i) day x ss g d h in
    let at = found.1 in
    subst (λ r. s.rank ≤ r) (sym (ap (λ k. k.rank) at.is)) (c.later (suc found.0) (omega arith) (omega (arith, at.within)) at.on)
    in
    ap (λ o. first_of o (first_firing_from (suc i) day x ss)) (firing_at_true i day x s c.on)
    ∙ keeps_first (firing_of i s) (first_firing_from (suc i) day x ss) least
    ∙ ap (λ n. Some (firing_of n s)) (sym base)
first_firing-is i day x (s ∷ ss) (suc p) d c =
    let next : suc i + p ≡ i + suc p = omega arith in
    let later = first_firing-is (suc i) day x ss p d (comes_first_tail day x s ss p d c) in
    let g = firing_of (suc i + p) (get_or ss p d) in
    let least : (f : Firing) → firing_at i day x s ≡ Some f → g.rank < f.rank =
    λ f h. elim (cases_Bool (fires day x s)) [
      | inl on ↦ subst (λ r. g.rank < r) (ap (λ k. k.rank) (same_Some (firing_of i s) f (sym (firing_at_true i day x s on) ∙ h))) (c.earlier 0 (omega arith) on)
      | inr off ↦ absurd (none-some f (sym (firing_at_false i day x s off) ∙ h))
    ]
    in
    ap (first_of (firing_at i day x s)) later
    ∙ yields_to (firing_at i day x s) g least
    ∙ ap (λ n. Some (firing_of n (get_or ss p d))) next

earlier_first : (f g : Firing) → leb f.rank g.rank ≡ true → first_of (Some f) (Some g) ≡ Some f
earlier_first f g low = ap (λ c. cond c (Some f) (Some g)) low

later_first : (f g : Firing) → leb f.rank g.rank ≡ false → first_of (Some f) (Some g) ≡ Some g
later_first f g high = ap (λ c. cond c (Some f) (Some g)) high

first_of_three : (f g h : Firing) (fg gh : Bool) → leb f.rank g.rank ≡ fg → leb g.rank h.rank ≡ gh
    → first_of (first_of (Some f) (Some g)) (Some h) ≡ first_of (Some f) (first_of (Some g) (Some h))
first_of_three f g h true true a b =
    let low : leb f.rank h.rank ≡ true = le-leb f.rank h.rank (omega (arith, leb-true f.rank g.rank a, leb-true g.rank h.rank b)) in
    ap (λ o. first_of o (Some h)) (earlier_first f g a) ∙ earlier_first f h low ∙ sym (ap (first_of (Some f)) (earlier_first g h b) ∙ earlier_first f g a)
first_of_three f g h true false a b =
    ap (λ o. first_of o (Some h)) (earlier_first f g a) ∙ sym (ap (first_of (Some f)) (later_first g h b))
first_of_three f g h false true a b =
    ap (λ o. first_of o (Some h)) (later_first f g a) ∙ earlier_first g h b ∙ sym (ap (first_of (Some f)) (earlier_first g h b) ∙ later_first f g a)
first_of_three f g h false false a b =
    let high : leb f.rank h.rank ≡ false = lt-leb f.rank h.rank (omega (arith, leb-false f.rank g.rank a, leb-false g.rank h.rank b)) in
    ap (λ o. first_of o (Some h)) (later_first f g a) ∙ later_first g h b ∙ sym (ap (first_of (Some f)) (later_first g h b) ∙ later_first f h high)

-- which of three records fires first
pub first_of-assoc : (o p q : Option Firing) → first_of (first_of o p) q ≡ first_of o (first_of p q)
first_of-assoc None p q = refl
first_of-assoc (Some f) None q = refl
first_of-assoc (Some f) (Some g) None =
    elim (cases_Bool (leb f.rank g.rank)) [
      | inl low ↦ ap (λ o. first_of o None) (earlier_first f g low) ∙ sym (earlier_first f g low)
      | inr high ↦ ap (λ o. first_of o None) (later_first f g high) ∙ sym (later_first f g high)
    ]
first_of-assoc (Some f) (Some g) (Some h) = first_of_three f g h (leb f.rank g.rank) (leb g.rank h.rank) refl refl

pub first_firing-step : (i day : ℕ) (x : List Bool) (all : List Supplement) (s : Supplement) → i < length all → s ≡ get_or all i s
    → first_firing_from i day x (drop i all) ≡ first_of (firing_at i day x s) (first_firing_from (i + 1) day x (drop (i + 1) all))
first_firing-step i day x all s within is =
    let split : drop i all ≡ s ∷ drop (i + 1) all = drop_more all i s within ∙ ap (λ t. t ∷ drop (i + 1) all) (sym is) in
    ap (first_firing_from i day x) split ∙ ap (λ n. first_of (firing_at i day x s) (first_firing_from n day x (drop (i + 1) all))) (sym (add-one i))

-- a loop's step: the rule at i joins those before it
pub first_firing-more : (i day : ℕ) (x : List Bool) (all : List Supplement) (s : Supplement) (o : Option Firing) → i < length all → s ≡ get_or all i s
    → first_of (first_of o (firing_at i day x s)) (first_firing_from (i + 1) day x (drop (i + 1) all)) ≡ first_of o (first_firing_from i day x (drop i all))
first_firing-more i day x all s o within is =
    first_of-assoc o (firing_at i day x s) (first_firing_from (i + 1) day x (drop (i + 1) all)) ∙ sym (ap (first_of o) (first_firing-step i day x all s within is))
