-- What an answer over the clauses of a slice says of the sets that are good on its days.
use Rattle.std.proofs.Common.{◌≡◌, ℕ, ◌≤◌, Bool, true, not, List, [], ◌∷◌, Some, length, sym, ap, ◌∙◌, arith}
use Rattle.std.specs.Prelude.{IsTrue}
use Rattle.std.specs.List.{slice_get}
use Rattle.std.proofs.lemmas.Bool.{and_from, le-leb, true≢false}
use Rattle.pb_base.specs.Rule.{holds}
use Rattle.book_model.specs.Activity.{is_within}
use Rattle.book_model.specs.Contents.{Contents}
use Rattle.book_model.specs.Good.{is_good}
use Rattle.book_model.specs.declared.record.Slice.{Slice}
use Rattle.clause_pool.specs.Literal.{is_true}
use Rattle.clause_pool.specs.Clause.{Follows}
use Rattle.clause_pool.proofs.LiteralLaws.{is_true-complement}
use Rattle.clause_pool.proofs.ClauseLaws.{TrueLiteral, true_literal, all_found}
use Rattle.clausify.specs.Coded.{slice_clauses, slice_asked}
use Rattle.clausify.specs.Lifting.{BeginsWith, BeginsGood}
use Rattle.clausify.specs.Questions.{goal, HasSet}
use Rattle.clausify.specs.declared.question.Asked.{Asked}
use Rattle.clausify.specs.declared.question.Question.{Question}
use Rattle.chains.specs.Growth.{Refutes}
use Rattle.solver.specs.Answer.{Begins}
use Rattle.solver.proofs.OneLaws.{in_one}
use Rattle.findings.specs.Findings.{MeetsThrough}
use Rattle.findings.specs.Answering.{SliceFacts}

-- the first day of a slice is one of its days
pub on_first : (s : Slice) → s.first ≤ s.last → is_within s.first s.last s.first ≡ true
on_first s order = and_from _ _ (le-leb s.first s.first (omega arith)) (le-leb s.first s.last order)

begins_with : (given : List (List ℕ)) (g codes : ℕ) (x : List Bool) → (h : Begins given (g ∷ []) codes x) → BeginsWith x h.assignment
begins_with given g codes x h = λ i below. h.begins i (omega (arith, below, h.counted))

-- the truth of a goal on a day, over a satisfying assignment that begins with the set
goal_on_day : (b : Contents) (s : Slice) (day : ℕ) (k : ℕ) (a : Asked) (x : List Bool) (v : ℕ → Bool) → slice_get (slice_asked b s.first) k ≡ Some a
    → BeginsGood b day (slice_asked b s.first) x v → is_true v a.goal ≡ holds (goal b day a.question) x
goal_on_day b s day k a x v is h = all_found (λ (p : Asked). is_true v p.goal ≡ holds (goal b day p.question) x) (slice_asked b s.first) k a h.goals is

-- a set that begins a satisfying assignment is good on each day of the slice, and meets each goal that is true there
pub meets_from_begins : (b : Contents) (s : Slice) (k : ℕ) (a : Asked) (x : List Bool) → SliceFacts b s → slice_get (slice_asked b s.first) k ≡ Some a
    → Begins (slice_clauses b s.first) (a.goal ∷ []) (length b.codes) x → MeetsThrough b s a.question x
meets_from_begins b s k a x facts is h =
    let then = λ (day : ℕ) (within : IsTrue (is_within s.first s.last day)).
    (facts.on_each_day day within).begins_good h.assignment x h.counted (begins_with (slice_clauses b s.first) a.goal (length b.codes) x h) h.satisfied in
    record {
      good_then = λ day within. (then day within).is_good_then;
      met_then = λ day within. sym (goal_on_day b s day k a x h.assignment is (then day within)) ∙ h.assumed a.goal (in_one a.goal);
    }

-- a set that is good on the first day of the slice is good on each
good_through : (b : Contents) (s : Slice) (x : List Bool) → SliceFacts b s → length x ≡ length b.codes → is_good b s.first x ≡ true
    → (day : ℕ) → IsTrue (is_within s.first s.last day) → is_good b day x ≡ true
good_through b s x facts counted good day within =
    let lift = (facts.on_each_day s.first (on_first s facts.order)).lifts x good in
    ((facts.on_each_day day within).begins_good lift.0 x counted lift.1.begins lift.1.satisfies).is_good_then

-- a set that is good on each day of the slice and meets a goal on the first of them meets it on each
meets_from_first : (b : Contents) (s : Slice) (k : ℕ) (a : Asked) (x : List Bool) → SliceFacts b s → slice_get (slice_asked b s.first) k ≡ Some a
    → length x ≡ length b.codes → ((day : ℕ) → IsTrue (is_within s.first s.last day) → is_good b day x ≡ true) → holds (goal b s.first a.question) x ≡ true
    → MeetsThrough b s a.question x
meets_from_first b s k a x facts is counted good met =
    let first : IsTrue (is_within s.first s.last s.first) = on_first s facts.order in
    let lift = (facts.on_each_day s.first first).lifts x (good s.first first) in
    let then = λ (day : ℕ) (within : IsTrue (is_within s.first s.last day)).
    (facts.on_each_day day within).begins_good lift.0 x counted lift.1.begins lift.1.satisfies in
    record {
      good_then = good;
      met_then = λ day within.
          sym (goal_on_day b s day k a x lift.0 is (then day within)) ∙ goal_on_day b s s.first k a x lift.0 is (then s.first first) ∙ met;
    }

-- so does one that is good on the first day
pub meets_from_found : (b : Contents) (s : Slice) (k : ℕ) (a : Asked) (x : List Bool) → SliceFacts b s → slice_get (slice_asked b s.first) k ≡ Some a
    → length x ≡ length b.codes → is_good b s.first x ≡ true → holds (goal b s.first a.question) x ≡ true → MeetsThrough b s a.question x
meets_from_found b s k a x facts is counted good met = meets_from_first b s k a x facts is counted (good_through b s x facts counted good) met

-- a question whose goal a set meets through the slice has a set
pub has_from_meets : (b : Contents) (s : Slice) (q : Question) (x : List Bool) → s.first ≤ s.last → MeetsThrough b s q x → HasSet b s q
has_from_meets b s q x order h = record {
  day = s.first;
  not_before = omega arith;
  not_after = order;
  set = x;
  is_good_then = h.good_then s.first (on_first s order);
  meets_goal = h.met_then s.first (on_first s order);
}

-- a clause that follows and has no literal but the complement of the goal leaves the question without a set
pub none_from_clause : (b : Contents) (s : Slice) (k : ℕ) (a : Asked) (c : List ℕ) → SliceFacts b s → slice_get (slice_asked b s.first) k ≡ Some a
    → Follows (slice_clauses b s.first) c → Refutes a.goal c → HasSet b s a.question → ⊥
none_from_clause b s k a c facts is follows refutes has_set =
    let met = (facts.decides k a is).0 has_set in
    let found : TrueLiteral met.assignment c = true_literal met.assignment c (follows met.assignment met.satisfies) in
    true≢false
    (sym found.holds ∙ ap (is_true met.assignment) (refutes found.literal found.is_in) ∙ is_true-complement met.assignment a.goal ∙ ap not met.meets)
