-- A question has a set just where some assignment satisfies the clauses and makes the literal of its goal true.
use Rattle.std.proofs.Common.{◌≡◌, ℕ, zero, suc, ◌+◌, ◌<◌, ◌≤◌, Bool, true, List, [], ◌∷◌, Some, length, refl, sym, ap, ◌∙◌, arith}
use Rattle.std.specs.List.{slice_get}
use Rattle.std.proofs.lemmas.Bool.{and_from, le-leb}
use Rattle.pb_base.specs.Rule.{holds}
use Rattle.pb_base.specs.Sets.{has}
use Rattle.book_model.specs.Contents.{Contents}
use Rattle.book_model.specs.Activity.{is_within}
use Rattle.book_model.specs.declared.record.Slice.{Slice}
use Rattle.clause_pool.specs.Literal.{is_true}
use Rattle.clause_pool.proofs.ClauseLaws.{all_found}
use Rattle.clausify.specs.Questions.{goal, HasSet}
use Rattle.clausify.specs.Lifting.{BeginsWith, CodesSlice, IsMet, DecidesEach}
use Rattle.clausify.specs.declared.question.Asked.{Asked}
use Rattle.clausify.specs.declared.question.Coded.{Coded}

-- so many values of an assignment, from variable i on
abbrev values_from : (ℕ → Bool) → ℕ → ℕ → List Bool
values_from a i zero = []
values_from a i (suc n) = a i ∷ values_from a (suc i) n

length-values_from : (a : ℕ → Bool) (i n : ℕ) → length (values_from a i n) ≡ n
length-values_from a i zero = refl
length-values_from a i (suc n) = ap suc (length-values_from a (suc i) n)

has-values_from : (a : ℕ → Bool) (i n k : ℕ) → k < n → a (i + k) ≡ has (values_from a i n) k
has-values_from a i zero k h = absurd (omega arith)
has-values_from a i (suc n) zero h = let e : i + 0 ≡ i = omega arith in ap a e
has-values_from a i (suc n) (suc k) h = let e : i + suc k ≡ suc i + k = omega arith in ap a e ∙ has-values_from a (suc i) n k (omega arith)

begins_with_values : (a : ℕ → Bool) (n : ℕ) → BeginsWith (values_from a 0 n) a
begins_with_values a n = λ i within.
    let e : i ≡ 0 + i = omega arith in ap a e ∙ has-values_from a 0 n i (omega (arith, length-values_from a 0 n))

on_day : (s : Slice) (day : ℕ) → s.first ≤ day → day ≤ s.last → is_within s.first s.last day ≡ true
on_day s day h k = and_from _ _ (le-leb s.first day h) (le-leb day s.last k)

met_from_set : (b : Contents) (s : Slice) (c : Coded) → CodesSlice b s c → (k : ℕ) (q : Asked) → slice_get c.questions.items k ≡ Some q → HasSet b s q.question → IsMet c.pool.clauses q.goal
met_from_set b s c codes k q is h =
    let lift = (codes.on_each_day h.day (on_day s h.day h.not_before h.not_after)).lifts h.set h.is_good_then in
    record {
      assignment = lift.0;
      satisfies = lift.1.satisfies;
      meets = all_found (λ (p : Asked). is_true lift.0 p.goal ≡ holds (goal b h.day p.question) h.set) c.questions.items k q lift.1.goals is ∙ h.meets_goal;
    }

set_from_met : (b : Contents) (s : Slice) (c : Coded) → CodesSlice b s c → s.first ≤ s.last → (k : ℕ) (q : Asked) → slice_get c.questions.items k ≡ Some q → IsMet c.pool.clauses q.goal → HasSet b s q.question
set_from_met b s c codes order k q is m =
    let x : List Bool = values_from m.assignment 0 (length b.codes) in
    let found = (codes.on_each_day s.first (on_day s s.first (omega arith) order)).begins_good m.assignment x (length-values_from m.assignment 0 (length b.codes)) (begins_with_values m.assignment (length b.codes)) m.satisfies in
    record {
      day = s.first;
      not_before = omega arith;
      not_after = order;
      set = x;
      is_good_then = found.is_good_then;
      meets_goal = sym (all_found (λ (p : Asked). is_true m.assignment p.goal ≡ holds (goal b s.first p.question) x) c.questions.items k q found.goals is) ∙ m.meets;
    }

pub decides_each : (b : Contents) (s : Slice) (c : Coded) → CodesSlice b s c → s.first ≤ s.last → DecidesEach b s c
decides_each b s c codes order = λ k q is. (met_from_set b s c codes k q is, set_from_met b s c codes order k q is)
