-- The runs of two books lie in slices of both.
use Rattle.std.proofs.Common.{inl, inr, ◌≡◌, ℕ, zero, suc, ◌+◌, ◌-◌, ◌<◌, ◌≤◌, Bool, true, false, List, [], ◌∷◌, nat_le, refl, sym, subst, ◌∙◌, arith, All}
use Rattle.std.proofs.lemmas.Bool.Decides.{nat_tests}
use Rattle.std.specs.List.{flat_map, range_with_len, AllByRecursion}
use Rattle.std.specs.Prelude.{None, Some, Result, Ok, Err, IfOk, if◌then◌else◌}
use Rattle.pb_base.specs.Answers.{Answers, IfRefused}
use Rattle.pb_base.specs.declared.answer.Fail.{Fail}
use Rattle.pb_base.specs.declared.answer.Fail.TheVariants.{Refused, Memory}
use Rattle.book_model.specs.declared.slicing.LimitFault.{LimitFault}
use Rattle.std.proofs.lemmas.Bool.{cases_Bool, cond-true, cond-false, and_parts, and_from, le-leb, leb-true, leb-false, false≢true}
use Rattle.std.proofs.lemmas.List.Elements.{recursion_from_All, All-from_recursion}
use Rattle.book_model.specs.Activity.{is_within}
use Rattle.book_model.specs.Contents.{Contents}
use Rattle.book_model.specs.Slices.{periods_of, slices_of, days_of, days_in, AreAlike, IsSteady, IsOrdered}
use Rattle.book_model.specs.declared.record.Slice.{Slice}
use Rattle.clausify.proofs.ListLaws.{all-append, all_first, all_last}
use Rattle.book_model.specs.Book.{IsBook}
use Rattle.book_model.specs.Sound.{IsReleasable}
use Rattle.book_compare.specs.Comparing.{AreBooks}
use Rattle.book_compare.specs.Comparison.{outside}
use Rattle.book_compare.specs.declared.note.Outside.{Outside}
use Rattle.book_compare.specs.declared.note.Outside.TheVariants.{First, Second}
use Rattle.book_changes.specs.Days.{later, earlier, shared_days, shared, joint_runs, IsSliceOf, IsSliced, IsRunOf, IsJointRun}

abbrev IsAlike : ℕ → ℕ → Slice → Type 0
IsAlike d e p = is_within p.first p.last d ≡ is_within p.first p.last e

alike_each : (d e r : ℕ) (ps : List Slice) → AllByRecursion (IsAlike d e) ps → AllByRecursion (IsAlike r e) ps → AllByRecursion (IsAlike d r) ps
alike_each d e r [] h k = tt
alike_each d e r (p ∷ ps) h k = (h.0 ∙ sym k.0, alike_each d e r ps h.1 k.1)

alike_through : (b : Contents) (d e r : ℕ) → AreAlike b d e → AreAlike b r e → AreAlike b d r
alike_through b d e r h k =
    All-from_recursion (IsAlike d r) (periods_of b)
    (alike_each d e r (periods_of b) (recursion_from_All (IsAlike d e) (periods_of b) h) (recursion_from_All (IsAlike r e) (periods_of b) k))

within_from : (from until day : ℕ) → from ≤ day → day ≤ until → is_within from until day ≡ true
within_from from until day a b = and_from (nat_le from day) (nat_le day until) (le-leb from day a) (le-leb day until b)

-- a run of its days is one too
run_of : (b : Contents) (s r : Slice) → IsSliceOf b s → s.first ≤ r.first → r.last ≤ s.last → r.first ≤ r.last → IsRunOf b r
run_of b s r h from to ordered = record {
  steady = λ day within.
      let parts = and_parts (nat_le r.first day) (nat_le day r.last) within in
      let after : r.first ≤ day = leb-true r.first day parts.0 in
      let before : day ≤ r.last = leb-true day r.last parts.1 in
      alike_through b day s.first r.first
      (h.steady day (within_from s.first s.last day (omega (arith, after, from)) (omega (arith, before, to))))
      (h.steady r.first (within_from s.first s.last r.first from (omega (arith, ordered, to))));
  from = omega (arith, h.from, from);
  to = omega (arith, h.to, to, ordered);
}

later_bounds : (a b : ℕ) → (a ≤ later a b) × (b ≤ later a b)
later_bounds a b = (grind (arith, nat_tests), grind (arith, nat_tests))

earlier_bounds : (a b : ℕ) → (earlier a b ≤ a) × (earlier a b ≤ b)
earlier_bounds a b = (grind (arith, nat_tests), grind (arith, nat_tests))

module _ (first second : Contents) where
  shared_run : (s t : Slice) → IsSliceOf first s → IsSliceOf second t → AllByRecursion (IsJointRun first second) (shared s t)
  shared_run s t one other = elim (cases_Bool (nat_le (later s.first t.first) (earlier s.last t.last))) [
    | inl some ↦
        let ordered : later s.first t.first ≤ earlier s.last t.last = leb-true (later s.first t.first) (earlier s.last t.last) some in
        rw some (
          record {
            one = run_of first s (shared_days s t) one (later_bounds s.first t.first).0 (earlier_bounds s.last t.last).0 ordered;
            other = run_of second t (shared_days s t) other (later_bounds s.first t.first).1 (earlier_bounds s.last t.last).1 ordered;
          },
          tt,
        )
    | inr none ↦
        rw none tt
  ]

  shared_runs : (s : Slice) (ts : List Slice) → IsSliceOf first s → AllByRecursion (IsSliceOf second) ts → AllByRecursion (IsJointRun first second) (flat_map (shared s) ts)
  shared_runs s [] one others = tt
  shared_runs s (t ∷ ts) one others =
      all-append (IsJointRun first second) (shared s t) (flat_map (shared s) ts) (shared_run s t one others.0) (shared_runs s ts one others.1)

  pub runs_are : (ss ts : List Slice) → All (IsSliceOf first) ss → All (IsSliceOf second) ts → All (IsJointRun first second) (joint_runs ss ts)
  runs_are ss ts ones all_others = All-from_recursion (IsJointRun first second) (joint_runs ss ts) (each ss (recursion_from_All (IsSliceOf first) ss ones))
    where
      others : AllByRecursion (IsSliceOf second) ts
      others = recursion_from_All (IsSliceOf second) ts all_others

      each : (us : List Slice) → AllByRecursion (IsSliceOf first) us → AllByRecursion (IsJointRun first second) (joint_runs us ts)
      each [] h = tt
      each (u ∷ us) h = all-append (IsJointRun first second) (flat_map (shared u) ts) (joint_runs us ts) (shared_runs u ts h.0 others) (each us h.1)

-- the slices of a book are slices of it
abbrev IsDayOf : Contents → ℕ → Type 0
IsDayOf b day = (b.first ≤ day) × (day ≤ b.last)

days_of_term : (b : Contents) (a n : ℕ) → b.first ≤ a → a + n ≤ suc b.last → AllByRecursion (IsDayOf b) (range_with_len a n)
days_of_term b a zero from to = tt
days_of_term b a (suc n) from to = ((from, omega arith), days_of_term b (a + 1) n (omega arith) (omega arith))

day_at : (b : Contents) (a n k : ℕ) → AllByRecursion (IsDayOf b) (range_with_len a n) → k < n → IsDayOf b (a + k)
day_at b a zero k h within = absurd (omega (arith, within))
day_at b a (suc n) zero h within = let e : a ≡ a + zero = omega arith in subst (IsDayOf b) e h.0
day_at b a (suc n) (suc k) h within = let e : a + 1 + k ≡ a + suc k = omega arith in subst (IsDayOf b) e (day_at b (a + 1) n k h.1 (omega (arith, within)))

slices_each : (b : Contents) (ss : List Slice) → AllByRecursion (IsDayOf b) (flat_map days_in ss) → AllByRecursion IsOrdered ss → AllByRecursion (IsSteady b) ss → AllByRecursion (IsSliceOf b) ss
slices_each b [] days ordered steady = tt
slices_each b (s ∷ ss) days ordered steady =
    let own = all_first (IsDayOf b) (days_in s) (flat_map days_in ss) days in
    let sorted : s.first ≤ s.last = ordered.0 in
    let end : s.first + (s.last - s.first) ≡ s.last = omega (arith, sorted) in
    let begins : IsDayOf b s.first = own.0 in
    let ends : IsDayOf b s.last = subst (IsDayOf b) end (day_at b s.first (suc (s.last - s.first)) (s.last - s.first) own (omega arith)) in
    (record { steady = steady.0; from = begins.0; to = ends.1 }, slices_each b ss (all_last (IsDayOf b) (days_in s) (flat_map days_in ss) days) ordered.1 steady.1)

pub slices_of_book : (b : Contents) (ss : List Slice) → b.first ≤ b.last → flat_map days_in ss ≡ days_of b → All IsOrdered ss → All (IsSteady b) ss → AllByRecursion (IsSliceOf b) ss
slices_of_book b ss term days ordered steady =
    slices_each b ss (subst (AllByRecursion (IsDayOf b)) (sym days) (days_of_term b b.first (suc (b.last - b.first)) (omega arith) (omega (arith, term))))
    (recursion_from_All IsOrdered ss ordered) (recursion_from_All (IsSteady b) ss steady)

pub sliced : (b : Contents) (answer : Result (List Slice) (Fail LimitFault)) → b.first ≤ b.last → Answers answer (slices_of b) → IfOk answer (λ ss. flat_map days_in ss ≡ days_of b)
    → IfOk answer (λ ss. All IsOrdered ss) → IfOk answer (λ ss. All (IsSteady b) ss) → IfOk answer (IsSliced b)
sliced b (Ok ss) term are days ordered steady =
    record { are = are; each = All-from_recursion (IsSliceOf b) ss (slices_of_book b ss term days ordered steady) }
sliced b (Err why) term are days ordered steady = tt

pub refused : (b : Contents) (answer : Result (List Slice) (Fail LimitFault)) → Answers answer (slices_of b) → IfRefused answer (λ fault. slices_of b ≡ Err fault)
refused b (Ok ss) are = tt
refused b (Err (Refused fault)) are = are
refused b (Err Memory) are = tt

-- the first day of a run is in both terms
pub inside : (first second : Contents) (r : Slice) → IsJointRun first second r → outside first second r.first ≡ None
inside first second r run =
    rw (within_from first.first first.last r.first run.one.from run.one.to, within_from second.first second.last r.first run.other.from run.other.to) refl

pub never_outside : (first second : Contents) (r : Slice) (book : Outside) → IsJointRun first second r → outside first second r.first ≡ Some book → ⊥
never_outside first second r book run is = let none : outside first second r.first ≡ None = inside first second r run in cc
