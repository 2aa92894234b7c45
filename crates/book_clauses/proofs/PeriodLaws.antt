-- The variables of periods, and what says which of them a day is in.
use Rattle.std.proofs.Common.{inl, inr, ◌≡◌, ℕ, zero, suc, ◌+◌, ◌<◌, ◌≤◌, Bool, true, List, [], ◌∷◌, ◌++◌, Option, None, Some, length, map, refl, sym, ap, subst, ◌∙◌, arith}
use Rattle.std.specs.List.{list_any, slice_get}
use Rattle.std.specs.Option.{IfSome}
use Rattle.std.proofs.lemmas.Bool.{and_parts, and_from, cases_Bool, cond-true, cond-false, eqb-true, leb-true, le-leb, or_cases, false≢true}
use Rattle.std.proofs.lemmas.Option.{none-some, same_Some}
use Rattle.pb_base.specs.Sets.{has}
use Rattle.book_model.specs.Activity.{is_within}
use Rattle.book_model.specs.Contents.{Contents}
use Rattle.book_model.specs.declared.record.Slice.{Slice}
use Rattle.guarded_rules.specs.Guarded.{is_on}
use Rattle.book_clauses.specs.BookClauses.{is_whole, same_days, has_guard, AllHaveGuards, guard_from, guard_in, is_in}

-- the days of which periods a day is
abbrev pub bits : List Slice → ℕ → List Bool
bits ps day = map (is_in day) ps

pub bit_at : (day : ℕ) (ps : List Slice) (k : ℕ) (p : Slice) → slice_get ps k ≡ Some p → has (bits ps day) k ≡ is_in day p
bit_at day [] k p there = absurd (none-some p there)
bit_at day (q ∷ ps) zero p there = ap (is_in day) (same_Some q p there)
bit_at day (q ∷ ps) (suc k) p there = bit_at day ps k p there

same_in : (day : ℕ) (p d : Slice) → same_days p d ≡ true → is_in day p ≡ is_in day d
same_in day p d same =
    let ends = and_parts _ _ same in
    ap (λ (from : ℕ). is_within from p.last day) (eqb-true p.first d.first ends.0)
    ∙ ap (λ (until : ℕ). is_within d.first until day) (eqb-true p.last d.last ends.1)

found_on : (day : ℕ) (d : Slice) (v : ℕ) (ps : List Slice) (z : List Bool) → ((k : ℕ) (p : Slice) → slice_get ps k ≡ Some p → has z (v + k) ≡ is_in day p)
    → list_any (λ p. same_days p d) ps ≡ true → is_on z (guard_from v ps d) ≡ is_in day d
found_on day d v [] z h found = absurd (false≢true found)
found_on day d v (p ∷ ps) z h found =
    elim (cases_Bool (same_days p d)) [
      | inl same ↦
          subst (λ (g : Option ℕ). is_on z g ≡ is_in day d) (sym (cond-true (same_days p d) (Some v) (guard_from (v + 1) ps d) same))
          (ap (has z) (let e : v ≡ v + 0 = omega arith in e) ∙ h 0 p refl ∙ same_in day p d same)
      | inr other ↦
          subst (λ (g : Option ℕ). is_on z g ≡ is_in day d) (sym (cond-false (same_days p d) (Some v) (guard_from (v + 1) ps d) other))
          (found_on day d (v + 1) ps z (λ k q there. ap (has z) (let e : v + 1 + k ≡ v + suc k = omega arith in e) ∙ h (suc k) q there)
          (elim (or_cases (same_days p d) (list_any (λ q. same_days q d) ps) found) [
            | inl same ↦ absurd (false≢true (sym other ∙ same))
            | inr later ↦ later
          ]))
    ]

whole_in : (b : Contents) (day : ℕ) (d : Slice) → b.first ≤ day → day ≤ b.last → is_whole b d ≡ true → is_in day d ≡ true
whole_in b day d low high whole =
    let ends = and_parts _ _ whole in
    and_from _ _ (le-leb d.first day (omega (arith, low, leb-true d.first b.first ends.0))) (le-leb day d.last (omega (arith, high, leb-true b.last d.last ends.1)))

-- a record's guard is there just where the record is active
pub guard_on : (b : Contents) (ps : List Slice) (day : ℕ) → b.first ≤ day → day ≤ b.last → (z : List Bool)
    → ((k : ℕ) (p : Slice) → slice_get ps k ≡ Some p → has z (length b.codes + k) ≡ is_in day p)
    → (d : Slice) → has_guard b ps d ≡ true → is_on z (guard_in b ps d) ≡ is_in day d
guard_on b ps day low high z h d has_one =
    elim (cases_Bool (is_whole b d)) [
      | inl whole ↦
          subst (λ (g : Option ℕ). is_on z g ≡ is_in day d) (sym (cond-true (is_whole b d) None (guard_from (length b.codes) ps d) whole))
          (sym (whole_in b day d low high whole))
      | inr part ↦
          subst (λ (g : Option ℕ). is_on z g ≡ is_in day d) (sym (cond-false (is_whole b d) None (guard_from (length b.codes) ps d) part))
          (found_on day d (length b.codes) ps z h
          (elim (or_cases (is_whole b d) (list_any (λ p. same_days p d) ps) has_one) [
            | inl whole ↦ absurd (false≢true (sym part ∙ whole))
            | inr found ↦ found
          ]))
    ]

-- a guard is one of the variables of the periods
from_low : (d : Slice) (v : ℕ) (ps : List Slice) → IfSome (guard_from v ps d) (λ g. g < v + length ps)
from_low d v [] = tt
from_low d v (p ∷ ps) =
    elim (cases_Bool (same_days p d)) [
      | inl same ↦
          subst (λ (g : Option ℕ). IfSome g (λ k. k < v + length (p ∷ ps))) (sym (cond-true (same_days p d) (Some v) (guard_from (v + 1) ps d) same)) (omega arith)
      | inr other ↦
          subst (λ (g : Option ℕ). IfSome g (λ k. k < v + length (p ∷ ps))) (sym (cond-false (same_days p d) (Some v) (guard_from (v + 1) ps d) other))
          (subst (λ (m : ℕ). IfSome (guard_from (v + 1) ps d) (λ k. k < m)) (let e : v + 1 + length ps ≡ v + length (p ∷ ps) = omega arith in e) (from_low d (v + 1) ps))
    ]

pub guard_low : (b : Contents) (ps : List Slice) (d : Slice) → IfSome (guard_in b ps d) (λ g. g < length b.codes + length ps)
guard_low b ps d =
    elim (cases_Bool (is_whole b d)) [
      | inl whole ↦
          subst (λ (g : Option ℕ). IfSome g (λ k. k < length b.codes + length ps)) (sym (cond-true (is_whole b d) None (guard_from (length b.codes) ps d) whole)) tt
      | inr part ↦
          subst (λ (g : Option ℕ). IfSome g (λ k. k < length b.codes + length ps)) (sym (cond-false (is_whole b d) None (guard_from (length b.codes) ps d) part))
          (from_low d (length b.codes) ps)
    ]

pub all_kept : (b : Contents) (ps qs ds : List Slice) → ((d : Slice) → has_guard b ps d ≡ true → has_guard b qs d ≡ true) → AllHaveGuards b ps ds → AllHaveGuards b qs ds
all_kept b ps qs [] keeps h = tt
all_kept b ps qs (d ∷ ds) keeps h = (keeps d h.0, all_kept b ps qs ds keeps h.1)

pub all_more : (b : Contents) (ps : List Slice) (ds : List Slice) (d : Slice) → AllHaveGuards b ps ds → has_guard b ps d ≡ true → AllHaveGuards b ps (ds ++ d ∷ [])
all_more b ps [] d h has_one = (has_one, tt)
all_more b ps (e ∷ ds) d h has_one = (h.0, all_more b ps ds d h.1 has_one)
