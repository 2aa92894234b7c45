-- What a pass over all clauses keeps.
use Rattle.std.proofs.Common.{◌≡◌, inl, inr, ℕ, ◌+◌, ◌-◌, ◌*◌, ◌<◌, ◌≤◌, true, false, List, [], ◌∷◌, ◌++◌, append-nil, Option, length, refl, sym, subst, ◌∙◌, ap, arith, length-append}
use Rattle.std.proofs.lemmas.Bool.{cases_eq, true≢false}
use Rattle.std.proofs.Math.Nat.{mul-le-mul_right}
use Rattle.clause_pool.specs.Literal.{complement}
use Rattle.clause_pool.specs.Clause.{has}
use Rattle.propagate.specs.Trail.{OthersFalse, IsReason}
use Rattle.propagate.specs.Quiet.{IsConsistent, IsQuietFor, Quiet}
use Rattle.propagate.specs.Assignment.{Assigned, IsAssigned}
use Rattle.propagate.specs.Watching.{Watching, Visits, Grown, AreReasons, clause_at}
use Rattle.propagate.specs.Visiting.{scene}
use Rattle.propagate.specs.Running.{IsEngine}
use Rattle.propagate.specs.Plain.{IsForced}
use Rattle.propagate.proofs.AssignmentLaws.{few_literals}
use Rattle.propagate.proofs.QuietLaws.{true_is_quiet, all_by_place}
use Rattle.propagate.proofs.KeepLaws.{grown_not, grown_twice, held_grown, visiting_grown}
use Rattle.propagate.proofs.EngineLaws.{decided_grown}
use Rattle.propagate.proofs.JoinLaws.{false_grown}

-- a clause with two literals that aren't false says nothing
pub two_open_quiet : (lits c : List ℕ) (first second : ℕ) → has c first ≡ true → has c second ≡ true → (first ≡ second → ⊥) → has lits (complement first) ≡ false → has lits (complement second) ≡ false → IsQuietFor lits c
two_open_quiet lits c first second first_in second_in apart first_open second_open = record {
  not_false = λ all. true≢false (sym (all first first_in) ∙ first_open);
  unit_true = λ x x_in others. elim (cases_eq first x) [
    | inr other ↦ absurd (true≢false (sym (others first first_in other) ∙ first_open))
    | inl same ↦ absurd (true≢false (sym (others second second_in (λ e. apart (same ∙ sym e))) ∙ second_open))
  ];
}

pub one_true_quiet : (lits c : List ℕ) (l : ℕ) → IsConsistent lits → has c l ≡ true → has lits l ≡ true → IsQuietFor lits c
one_true_quiet lits c l consistent is_in is_true = true_is_quiet lits c consistent (l, is_in, is_true)

-- the clauses before a place say nothing, and what was done until then
pub record Passing (clauses : List (List ℕ)) (first a : Assigned) (at : ℕ) : Type 0 where
  pub grown : Grown first a
  pub reasoned : AreReasons clauses first → AreReasons clauses a
  pub within : at ≤ length clauses
  pub quiet : (k : ℕ) → k < at → IsQuietFor a.lits (clause_at clauses k)

pub passing_first : (clauses : List (List ℕ)) (a : Assigned) → Passing clauses a a 0
passing_first clauses a = record { grown = grown_not a; reasoned = λ r. r; within = omega arith; quiet = λ k low. absurd (omega (arith, low)) }

pub passing_next : (clauses : List (List ℕ)) (c : List ℕ) (first a : Assigned) (at : ℕ) → Passing clauses first a at → at < length clauses → c ≡ clause_at clauses at → IsQuietFor a.lits c → Passing clauses first a (at + 1)
passing_next clauses c first a at p low is quiet = record {
  grown = p.grown;
  reasoned = p.reasoned;
  within = omega (arith, low);
  quiet = λ k below. elim (cases_eq k at) [
    | inl e ↦ subst (λ (xs : List ℕ). IsQuietFor a.lits xs) (is ∙ ap (λ (n : ℕ). clause_at clauses n) (sym e)) quiet
    | inr other ↦ p.quiet k (omega (arith, below, other))
  ];
}

pub forced_reason : (clauses : List (List ℕ)) (c lits : List ℕ) (l at : ℕ) → at < length clauses → c ≡ clause_at clauses at → IsForced lits c l → IsReason clauses lits l at
forced_reason clauses c lits l at low is f = record {
  attached = low;
  is_in = subst (λ (xs : List ℕ). has xs l ≡ true) is f.is_in;
  others_false = subst (λ (xs : List ℕ). OthersFalse lits xs l) is f.others_false;
}

pub passing_forced : (clauses : List (List ℕ)) (first a b : Assigned) (at : ℕ) → Passing clauses first a at → Grown a b → (AreReasons clauses a → AreReasons clauses b) → Passing clauses first b 0
passing_forced clauses first a b at p g r = record {
  grown = grown_twice first a b p.grown g;
  reasoned = λ h. r (p.reasoned h);
  within = omega arith;
  quiet = λ k low. absurd (omega (arith, low));
}

pub passing_vars : (clauses : List (List ℕ)) (first a : Assigned) (at : ℕ) → Passing clauses first a at → a.vars ≡ first.vars
passing_vars clauses first a at p = ap (λ (z : Assigned). z.vars) p.grown.is

pub passed_quiet : (clauses : List (List ℕ)) (first a : Assigned) (at : ℕ) → IsAssigned a → Passing clauses first a at → length clauses ≤ at → Quiet clauses a.lits
passed_quiet clauses first a at h p end = record {
  consistent = h.consistent;
  each = all_by_place (IsQuietFor a.lits) clauses (λ k low. p.quiet k (omega (arith, low, end)));
}

-- one more literal is true, or one more clause was seen
abbrev pub to_pass : List (List ℕ) → Assigned → ℕ → ℕ
to_pass clauses a at = (a.vars - length a.lits) * (length clauses + 1) + (length clauses - at)

pub fewer_to_pass : (n m k at : ℕ) → m < n → m * (k + 1) + (k - 0) < n * (k + 1) + (k - at)
fewer_to_pass n m k at less =
    let h : (m + 1) * (k + 1) ≤ n * (k + 1) = mul-le-mul_right (k + 1) (omega (arith, less)) in
    let split : (m + 1) * (k + 1) ≡ m * (k + 1) + (k + 1) = one_more m (k + 1) in
    lift (m * (k + 1)) (n * (k + 1)) k at (omega (arith, h, split))
  where
    one_more : (x y : ℕ) → (x + 1) * y ≡ x * y + y
    one_more x y = omega arith

    lift : (x y j i : ℕ) → x + (j + 1) ≤ y → x + (j - 0) < y + (j - i)
    lift x y j i b = omega (arith, b)

-- a literal that was open and is true now
more_lits : (a b : Assigned) (l : ℕ) → Grown a b → has a.lits l ≡ false → has b.lits l ≡ true → length a.lits < length b.lits
more_lits a b l g not_true is_true = elim (cases_eq (length g.more) 0) [
  | inl none ↦
      let same : b.lits ≡ a.lits = ap (λ (z : Assigned). z.lits) g.is ∙ ap (λ (xs : List ℕ). a.lits ++ xs) (empty g.more none) ∙ append-nil a.lits in
      absurd (true≢false (sym (subst (λ (xs : List ℕ). has xs l ≡ true) same is_true) ∙ not_true))
  | inr some ↦ omega (arith, some, ap (λ (z : Assigned). length z.lits) g.is, length-append a.lits g.more)
] where
  empty : (xs : List ℕ) → length xs ≡ 0 → xs ≡ []
  empty [] h = refl
  empty (x ∷ xs) h = absurd (omega (arith, h))

pub fewer_after : (clauses : List (List ℕ)) (a b : Assigned) (l at : ℕ) → IsAssigned b → Grown a b → has a.lits l ≡ false → has b.lits l ≡ true → to_pass clauses b 0 < to_pass clauses a at
fewer_after clauses a b l at h g not_true is_true =
    let more = more_lits a b l g not_true is_true in
    let few = few_literals b h in
    let same : b.vars ≡ a.vars = ap (λ (z : Assigned). z.vars) g.is in
    fewer_to_pass (a.vars - length a.lits) (b.vars - length b.lits) (length clauses) at (omega (arith, more, few, same))

-- what an engine keeps where literals become true for its clauses
pub engine_grown : (a b : Assigned) (w : Watching) (v : Visits) (refuted : Option ℕ) → Grown a b → AreReasons w.clauses b → length a.reasons ≡ length a.lits → IsEngine (scene a w) v refuted → IsEngine (scene b w) v refuted
engine_grown a b w v refuted g reasoned counted h =
    let vars : b.vars ≡ a.vars = ap (λ (z : Assigned). z.vars) g.is in
    record {
      codes = let c = h.codes in omega (arith, c, vars);
      small = let s = h.small in omega (arith, s, vars);
      few = h.few;
      below = h.below;
      reasoned = reasoned;
      decided = decided_grown a b g counted h.decided;
      visiting = visiting_grown a b v g h.visiting;
      held = λ e. held_grown a b v w g h.visiting (h.held e);
      is_attached = h.is_attached;
      is_false = λ k e. false_grown a b (clause_at w.clauses k) g (h.visiting.ends 0 (omega arith)) (h.is_false k e);
    }
