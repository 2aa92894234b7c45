use Rattle.std.proofs.Common.{◌≡◌, ℕ, List, Ok, true, length, get_or, subst, sym, ap, arith, ◌∙◌}
use Rattle.clause_pool.specs.Clause.{has}
use Rattle.propagate.specs.Trail.{Trail, IsTrail}
use Rattle.propagate.specs.Engine.{Extends}
use Rattle.propagate.specs.Assignment.{Assigned}
use Rattle.propagate.specs.Watching.{Grown}
use Rattle.propagate.proofs.KeepLaws.{grown_not, has_at, same_default}
use Rattle.propagate.specs.Visiting.{scene}
use Rattle.propagate.proofs.JoinLaws.{engine_joined, engine_refuted, joined_trail, joined_over, held_over}
use Rattle.propagate.proofs.EngineLaws.{extends_grown, is_trail}
use Rattle.propagate.proofs.engine.Engine.attach.Goals as goal

pub returns-in_default-clause-extends : goal.returns-in_default-clause-extends
returns-in_default-clause-extends c =
    subst (λ (t : Trail). Extends t t) c.self.view_is
    (extends_grown c.self.inside.assignment c.self.inside.assignment c.self.inside.watched.clauses c.self.inside.watched.clauses (grown_not c.self.inside.assignment) c.assigned_law.ensures.assigned.reasons_counted)

pub returns-then-not-branch-clause-extends : goal.returns-then-not-branch-clause-extends
returns-then-not-branch-clause-extends c =
    subst (λ (t : Trail). Extends t (record { vars = c.join.new.assignment.vars; clauses = c.join.new.watched.clauses; lits = c.join.new.assignment.lits; reasons = c.join.new.assignment.reasons; starts = c.join.new.assignment.starts })) c.self.view_is
    (extends_grown c.self.inside.assignment c.join.new.assignment c.self.inside.watched.clauses c.join.new.watched.clauses c.in_ok-join.ensures.joined.grown c.assigned_law.ensures.assigned.reasons_counted)

pub returns-else-not-branch-clause-extends : goal.returns-else-not-branch-clause-extends
returns-else-not-branch-clause-extends c =
    subst (λ (t : Trail). Extends t (record { vars = c.join.new.assignment.vars; clauses = c.join.new.watched.clauses; lits = c.join.new.assignment.lits; reasons = c.join.new.assignment.reasons; starts = c.join.new.assignment.starts })) c.self.view_is
    (extends_grown c.self.inside.assignment c.join.new.assignment c.self.inside.watched.clauses c.join.new.watched.clauses c.in_ok-join.ensures.joined.grown c.assigned_law.ensures.assigned.reasons_counted)

pub returns-in_err-join-clause-extends : goal.returns-in_err-join-clause-extends
returns-in_err-join-clause-extends c =
    subst (λ (t : Trail). Extends t (record { vars = c.join.new.assignment.vars; clauses = c.join.new.watched.clauses; lits = c.join.new.assignment.lits; reasons = c.join.new.assignment.reasons; starts = c.join.new.assignment.starts })) c.self.view_is
    (extends_grown c.self.inside.assignment c.join.new.assignment c.self.inside.watched.clauses c.join.new.watched.clauses
    (subst (λ (a : Assigned). Grown c.self.inside.assignment a) (sym c.in_err-join.ensures.same_literals) (grown_not c.self.inside.assignment)) c.assigned_law.ensures.assigned.reasons_counted)

pub returns-in_err-lay_out-clause-extends : goal.returns-in_err-lay_out-clause-extends
returns-in_err-lay_out-clause-extends c =
    subst (λ (t : Trail). Extends t (record { vars = c.self.inside.assignment.vars; clauses = c.lay_out.new.self.clauses; lits = c.self.inside.assignment.lits; reasons = c.self.inside.assignment.reasons; starts = c.self.inside.assignment.starts })) c.self.view_is
    (extends_grown c.self.inside.assignment c.self.inside.assignment c.self.inside.watched.clauses c.lay_out.new.self.clauses (grown_not c.self.inside.assignment) c.assigned_law.ensures.assigned.reasons_counted)

pub returns-in_err-lay_out-clause-trail : goal.returns-in_err-lay_out-clause-trail
returns-in_err-lay_out-clause-trail c =
    rw (c.in_err-lay_out.ensures) (is_trail (scene c.self.inside.assignment c.self.inside.watched) _ _ c.assigned_law.ensures.assigned c.self.invariant.0)

pub join-requires-clause-small : goal.join-requires-clause-small
join-requires-clause-small c = λ k d low.
    let is_in : has c.lits.result.now (get_or c.lits.result.now k d) ≡ true = has_at c.lits.result.now k (get_or c.lits.result.now k d) low (same_default c.lits.result.now k 0 d low) in
    let b = c.requires.below (get_or c.lits.result.now k d) (subst (λ (xs : List ℕ). has xs (get_or c.lits.result.now k d) ≡ true) c.lits.ensures.clause is_in) in
    omega (arith, b, c.assigned_law.ensures.small, ap (λ (t : Trail). t.vars) c.self.view_is)

pub invariant_of-self-then-not-branch : goal.invariant_of-self-then-not-branch
invariant_of-self-then-not-branch c = (
  engine_refuted (scene c.self.inside.assignment c.self.inside.watched) (scene c.join.new.assignment c.join.new.watched) c.lits.result.now _ c.self.inside.refuted
      (joined_over c.self.inside.assignment _ _ _ _ c.in_ok-lay_out.ensures c.in_ok-join.ensures.joined) c.assigned_law.ensures.assigned.reasons_counted c.self.invariant.0
      (λ l is_in.
      let b = c.requires.below l (subst (λ (xs : List ℕ). has xs l ≡ true) c.lits.ensures.clause is_in) in
      omega (arith, b, c.self.invariant.0.codes, ap (λ (t : Trail). t.vars) c.self.view_is))
      (omega (arith, c.in-Ok.ensures, c.requires.next, ap (λ (t : Trail). length t.clauses) c.self.view_is))
      c.in-Ok.clause (omega (arith, c.in-Ok.ensures, c.requires.next, ap (λ (t : Trail). length t.clauses) c.self.view_is)) (c.in_ok-join.ensures.refuted (ap Ok c.if-not-branch.true)),
  omega (arith, c.self.invariant.1, ap (λ (a : Assigned). a.vars) c.in_ok-join.ensures.joined.grown.is),
)

pub invariant_of-self-else-not-branch : goal.invariant_of-self-else-not-branch
invariant_of-self-else-not-branch c = (
  engine_joined (scene c.self.inside.assignment c.self.inside.watched) (scene c.join.new.assignment c.join.new.watched) c.lits.result.now _ c.self.inside.refuted
      (joined_over c.self.inside.assignment _ _ _ _ c.in_ok-lay_out.ensures c.in_ok-join.ensures.joined) c.assigned_law.ensures.assigned.reasons_counted c.self.invariant.0
      (λ l is_in.
      let b = c.requires.below l (subst (λ (xs : List ℕ). has xs l ≡ true) c.lits.ensures.clause is_in) in
      omega (arith, b, c.self.invariant.0.codes, ap (λ (t : Trail). t.vars) c.self.view_is))
      (omega (arith, c.in-Ok.ensures, c.requires.next, ap (λ (t : Trail). length t.clauses) c.self.view_is))
      (held_over c.join.new.assignment _ c.join.new.watched _ _ c.in_ok-lay_out.ensures (c.in_ok-join.ensures.held (ap Ok c.if-not-branch.false) _ c.self.invariant.0.visiting)),
  omega (arith, c.self.invariant.1, ap (λ (a : Assigned). a.vars) c.in_ok-join.ensures.joined.grown.is),
)

pub returns-in_default-clause-trail : goal.returns-in_default-clause-trail
returns-in_default-clause-trail c = subst (λ (t : Trail). IsTrail t) c.self.view_is (is_trail (scene c.self.inside.assignment c.self.inside.watched) _ _ c.assigned_law.ensures.assigned c.self.invariant.0)

pub returns-in_err-join-clause-trail : goal.returns-in_err-join-clause-trail
returns-in_err-join-clause-trail c =
    rw (c.in_err-join.ensures.same_literals, c.in_err-join.ensures.same_clauses ∙ c.in_ok-lay_out.ensures) (is_trail (scene c.self.inside.assignment c.self.inside.watched) _ _ c.assigned_law.ensures.assigned c.self.invariant.0)

pub returns-then-not-branch-clause-trail : goal.returns-then-not-branch-clause-trail
returns-then-not-branch-clause-trail c =
    joined_trail (scene c.self.inside.assignment c.self.inside.watched) (scene c.join.new.assignment c.join.new.watched) c.lits.result.now _ c.self.inside.refuted
    (joined_over c.self.inside.assignment _ _ _ _ c.in_ok-lay_out.ensures c.in_ok-join.ensures.joined) c.assigned_law.ensures.assigned.reasons_counted c.self.invariant.0
    (λ l is_in.
    let b = c.requires.below l (subst (λ (xs : List ℕ). has xs l ≡ true) c.lits.ensures.clause is_in) in
    omega (arith, b, c.self.invariant.0.codes, ap (λ (t : Trail). t.vars) c.self.view_is))
    (omega (arith, c.in-Ok.ensures, c.requires.next, ap (λ (t : Trail). length t.clauses) c.self.view_is))
    c.join.ensures.assigned

pub returns-else-not-branch-clause-trail : goal.returns-else-not-branch-clause-trail
returns-else-not-branch-clause-trail c =
    joined_trail (scene c.self.inside.assignment c.self.inside.watched) (scene c.join.new.assignment c.join.new.watched) c.lits.result.now _ c.self.inside.refuted
    (joined_over c.self.inside.assignment _ _ _ _ c.in_ok-lay_out.ensures c.in_ok-join.ensures.joined) c.assigned_law.ensures.assigned.reasons_counted c.self.invariant.0
    (λ l is_in.
    let b = c.requires.below l (subst (λ (xs : List ℕ). has xs l ≡ true) c.lits.ensures.clause is_in) in
    omega (arith, b, c.self.invariant.0.codes, ap (λ (t : Trail). t.vars) c.self.view_is))
    (omega (arith, c.in-Ok.ensures, c.requires.next, ap (λ (t : Trail). length t.clauses) c.self.view_is))
    c.join.ensures.assigned
