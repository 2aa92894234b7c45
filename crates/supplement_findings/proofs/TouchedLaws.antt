-- The rules that a code touches, by their places.
use Rattle.std.proofs.Common.{inl, inr, ◌≡◌, ◌∙◌, ℕ, zero, suc, ◌+◌, ◌≤◌, ◌<◌, Bool, true, false, not, ◌&&◌, ◌||◌, List, [], ◌∷◌, All, length, map, set, drop, get_or, refl, sym, ap, subst, arith}
use Rattle.std.proofs.Math.Bool.{and-false}
use Rattle.std.specs.List.{filter, list_any, AllByRecursion}
use Rattle.std.proofs.lemmas.Bool.{or_parts, cases_Bool, cond-true, cond-false, not-true, and_left, cond_both}
use Rattle.std.proofs.lemmas.List.Elements.{All-from_recursion}
use Rattle.book_model.specs.Activity.{is_within}
use Rattle.book_model.specs.Contents.{Contents}
use Rattle.book_model.specs.Good.{breaks, is_constructible}
use Rattle.book_model.specs.declared.record.Construct.{Construct}
use Rattle.supplement_findings.specs.Touching.{touches, after, afters, is_touched, touched_from, no_construct, construct_at, is_active_rule, afters_at}
use Rattle.supplement_findings.proofs.TouchLaws.{met_untouched}

-- the first of what is left of a list, and what is left behind it
record IsNext (all : List Construct) (i : ℕ) (r : Construct) (rs : List Construct) : Type 0 where
  here : get_or all i no_construct ≡ r
  later : drop (suc i) all ≡ rs

abbrev no_rules : List Construct
no_rules = []

nothing_left : (i : ℕ) (r : Construct) (rs : List Construct) → drop i no_rules ≡ r ∷ rs → ⊥
nothing_left zero r rs e = cc
nothing_left (suc i) r rs e = cc

next_of : (all : List Construct) (i : ℕ) (r : Construct) (rs : List Construct) → drop i all ≡ r ∷ rs → IsNext all i r rs
next_of [] i r rs e = absurd (nothing_left i r rs e)
next_of (k ∷ all) zero r rs e = record { here = cc; later = cc }
next_of (k ∷ all) (suc i) r rs e = let rest = next_of all i r rs e in record { here = rest.here; later = rest.later }

-- each place is one of the book's
pub touched_within : (c i n : ℕ) (rs : List Construct) → i + length rs ≤ n → AllByRecursion (λ p. p < n) (touched_from i c rs)
touched_within c i n [] few = tt
touched_within c i n (r ∷ rs) few =
    let later : AllByRecursion (λ p. p < n) (touched_from (suc i) c rs) = touched_within c (suc i) n rs (omega (arith, few)) in
    let here : i < n = omega (arith, few) in
    cond_both (touches c r.demand) _ _ (AllByRecursion (λ p. p < n)) (λ _. (here, later)) (λ _. later)

pub all_within : (b : Contents) (c : ℕ) → All (λ p. p < length b.constructs) (touched_from 0 c b.constructs)
all_within b c = All-from_recursion (λ p. p < length b.constructs) (touched_from 0 c b.constructs) (touched_within c 0 (length b.constructs) b.constructs (omega arith))

-- those of them that are active
active_touched : (all : List Construct) (day c i : ℕ) (rs : List Construct) → drop i all ≡ rs
    → filter (is_active_rule day) (map (λ p. get_or all p no_construct) (touched_from i c rs)) ≡ filter (is_touched day c) rs
active_touched all day c i [] e = refl
active_touched all day c i (r ∷ rs) e =
    let next = next_of all i r rs e in
    let later = active_touched all day c (suc i) rs next.later in
    elim (cases_Bool (touches c r.demand)) [
      | inl on_ ↦ elim (cases_Bool (is_within r.from r.until day)) [
        | inl active ↦ rw (on_, next.here, active) (ap (λ (ks : List Construct). r ∷ ks) later)
        | inr inactive ↦ rw (on_, next.here, inactive) later
      ]
      | inr off ↦ rw (off, and-false) later
    ]

pub afters_touched : (b : Contents) (day c : ℕ) → afters_at b day c (touched_from 0 c b.constructs) ≡ afters b day c
afters_touched b day c = ap (map (λ (r : Construct). after c r.demand)) (active_touched b.constructs day c 0 b.constructs refl)

-- a set that breaks no rule breaks none with a code but one that the code touches
broken_touched : (all : List Construct) (day : ℕ) (x : List Bool) (c i : ℕ) (rs : List Construct) → drop i all ≡ rs → list_any (breaks day x) rs ≡ false
    → list_any (λ p. breaks day (set x c true) (get_or all p no_construct)) (touched_from i c rs) ≡ list_any (breaks day (set x c true)) rs
broken_touched all day x c i [] e none = refl
broken_touched all day x c i (r ∷ rs) e none =
    let next = next_of all i r rs e in
    let parts = or_parts (breaks day x r) (list_any (breaks day x) rs) none in
    let later = broken_touched all day x c (suc i) rs next.later parts.1 in
    elim (cases_Bool (touches c r.demand)) [
      | inl on_ ↦ rw (on_, next.here, later) refl
      | inr off ↦
          let here : breaks day (set x c true) r ≡ false = ap (λ t. is_within r.from r.until day && not t) (met_untouched x c r.demand off) ∙ parts.0 in
          rw (off, here) later
    ]

pub broken_at : (b : Contents) (day : ℕ) (x : List Bool) (c : ℕ) → is_constructible b day x ≡ true
    → list_any (λ p. breaks day (set x c true) (construct_at b p)) (touched_from 0 c b.constructs) ≡ list_any (breaks day (set x c true)) b.constructs
broken_at b day x c built = broken_touched b.constructs day x c 0 b.constructs refl (not-true _ built)
