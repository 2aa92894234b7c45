-- Where every literal of the trail was visited and every clause is held, the trail is quiet.
use Rattle.std.proofs.Common.{◌≡◌, ◌⊎◌, inl, inr, ℕ, zero, suc, ◌<◌, true, List, [], ◌∷◌, length, take, eqb, sym, subst, ◌∙◌, arith}
use Rattle.std.specs.List.{AllByRecursion}
use Rattle.std.proofs.lemmas.List.{take_all}
use Rattle.clause_pool.specs.Literal.{complement}
use Rattle.clause_pool.specs.Clause.{has}
use Rattle.propagate.specs.Quiet.{IsConsistent, IsQuietFor, Quiet}
use Rattle.propagate.specs.Assignment.{Assigned, end_of}
use Rattle.propagate.specs.Watching.{HasTrue, Watching, Visits, head_of, clause_at, pair_of, IsVisited, IsPaired, IsHeld, AreHeld}
use Rattle.propagate.specs.Watching.IsHeld.{fixed, paired}
use Rattle.std.proofs.lemmas.Bool.{cases_eq, false≢true, or_cases, or_left, or_right}
use Rattle.std.proofs.Math.ListN.{get_or-eq_default}

-- a clause with a true literal says nothing
pub true_is_quiet : (lits c : List ℕ) → IsConsistent lits → HasTrue lits c → IsQuietFor lits c
true_is_quiet lits c consistent (y, in_c, is_true) = record {
  not_false = λ all. consistent y is_true (all y in_c);
  unit_true = λ x x_in others. elim (cases_eq y x) [
    | inl same ↦ subst (λ (l : ℕ). has lits l ≡ true) same is_true
    | inr other ↦ absurd (consistent y is_true (others y in_c other))
  ];
}

-- the whole trail ends the last level
whole : (a : Assigned) → end_of a (length a.starts) ≡ length a.lits
whole a = get_or-eq_default a.starts (length a.lits) (omega arith)

-- a watched literal that is false leaves the clause with a true one, where the whole trail was visited
visited_true : (a : Assigned) (v : Visits) (c : List ℕ) (code : ℕ) → head_of v (length a.starts) ≡ length a.lits
    → IsVisited a v c code → has a.lits (complement code) ≡ true → HasTrue a.lits c
visited_true a v c code all visited is_false =
    let seen : take (head_of v (length a.starts)) a.lits ≡ a.lits = take_all (head_of v (length a.starts)) a.lits (omega (arith, all)) in
    let there : take (end_of a (length a.starts)) a.lits ≡ a.lits = take_all (end_of a (length a.starts)) a.lits (omega (arith, whole a)) in
    subst (λ (lits : List ℕ). HasTrue lits c) there
    (visited (length a.starts) (omega arith) (subst (λ (lits : List ℕ). has lits (complement code) ≡ true) (sym seen) is_false))

-- one of two different numbers is not a third
pub one_other : (x y z : ℕ) → (x ≡ y → ⊥) → (x ≡ z → ⊥) ⊎ (y ≡ z → ⊥)
one_other x y z apart = elim (cases_eq x z) [
  | inl same ↦ inr (λ e. apart (same ∙ sym e))
  | inr other ↦ inl other
]

pub paired_is_quiet : (a : Assigned) (v : Visits) (w : Watching) (k : ℕ) → IsConsistent a.lits
    → head_of v (length a.starts) ≡ length a.lits → IsPaired a v w k → IsQuietFor a.lits (clause_at w.clauses k)
paired_is_quiet a v w k consistent all p =
    let c : List ℕ = clause_at w.clauses k in
    let first : ℕ = (pair_of w k).first in
    let second : ℕ = (pair_of w k).second in
    let first_false = λ (h : has a.lits (complement first) ≡ true). visited_true a v c first all p.first.visited h in
    let second_false = λ (h : has a.lits (complement second) ≡ true). visited_true a v c second all p.second.visited h in
    record {
      not_false = λ h. (true_is_quiet a.lits c consistent (first_false (h first p.first.is_in))).not_false h;
      unit_true = λ x x_in others. elim (one_other first second x p.apart) [
        | inl other ↦ (true_is_quiet a.lits c consistent (first_false (others first p.first.is_in other))).unit_true x x_in others
        | inr other ↦ (true_is_quiet a.lits c consistent (second_false (others second p.second.is_in other))).unit_true x x_in others
      ];
    }

pub has_take : (n : ℕ) (lits : List ℕ) (l : ℕ) → has (take n lits) l ≡ true → has lits l ≡ true
has_take zero lits l h = absurd (false≢true h)
has_take (suc n) [] l h = h
has_take (suc n) (x ∷ lits) l h = elim (or_cases (eqb x l) (has (take n lits) l) h) [
  | inl here ↦ or_left (eqb x l) (has lits l) here
  | inr later ↦ or_right (eqb x l) (has lits l) (has_take n lits l later)
]

pub true_in_front : (n : ℕ) (lits c : List ℕ) → HasTrue (take n lits) c → HasTrue lits c
true_in_front n lits c (l, in_c, is_true) = (l, in_c, has_take n lits l is_true)

pub held_is_quiet : (a : Assigned) (v : Visits) (w : Watching) (k : ℕ) → IsConsistent a.lits
    → head_of v (length a.starts) ≡ length a.lits → IsHeld a v w k → IsQuietFor a.lits (clause_at w.clauses k)
held_is_quiet a v w k consistent all (fixed h) = true_is_quiet a.lits (clause_at w.clauses k) consistent (true_in_front (end_of a 0) a.lits (clause_at w.clauses k) h)
held_is_quiet a v w k consistent all (paired p) = paired_is_quiet a v w k consistent all p

-- what holds at each place holds of all
pub all_by_place : (P : List ℕ → Type 0) (clauses : List (List ℕ)) → ((k : ℕ) → k < length clauses → P (clause_at clauses k)) → AllByRecursion P clauses
all_by_place P [] each = tt
all_by_place P (c ∷ clauses) each = (each 0 (omega arith), all_by_place P clauses (λ k h. each (suc k) (omega (arith, h))))

pub all_quiet : (a : Assigned) (v : Visits) (w : Watching) → IsConsistent a.lits
    → head_of v (length a.starts) ≡ length a.lits → AreHeld a v w → Quiet w.clauses a.lits
all_quiet a v w consistent all held = record {
  consistent = consistent;
  each = all_by_place (IsQuietFor a.lits) w.clauses (λ k h. held_is_quiet a v w k consistent all (held k h));
}
