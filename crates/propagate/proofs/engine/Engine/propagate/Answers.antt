use Rattle.std.proofs.Common.{Ok, [], get_or, subst, ◌∙◌, ap, arith}
use Rattle.propagate.specs.Trail.{Trail, AllFalse}
use Rattle.propagate.specs.Engine.{Extends}
use Rattle.propagate.specs.Visiting.{scene}
use Rattle.propagate.proofs.EngineLaws.{engine_ran, engine_quiet, extends_grown, refuted_false, ran_vars}
use Rattle.propagate.proofs.engine.Engine.propagate.Goals as goal

pub returns-in-Some-clause-conflict : goal.returns-in-Some-clause-conflict
returns-in-Some-clause-conflict c =
    subst (λ (t : Trail). AllFalse t.lits (get_or t.clauses c.in-Some.clause [])) c.self.view_is
    (λ l is_in. refuted_false (scene c.self.inside.assignment c.self.inside.watched) _ c.self.inside.refuted c.in-Some.clause l c.self.invariant.0 c.in-Some.is is_in)

pub invariant_of-self : goal.invariant_of-self
invariant_of-self c = (
  engine_ran (scene c.self.inside.assignment c.self.inside.watched) (scene c.run.new.assignment c.run.new.watched) c.self.inside.heads.items c.self.inside.head c.run.new.head c.self.inside.refuted
      c.in_default.is c.assigned_law.ensures.assigned.reasons_counted c.self.invariant.0 c.run.ensures.ran,
  omega (arith, c.self.invariant.1, ran_vars _ _ _ _ c.run.ensures.ran),
)

pub invariant_of-self-in_default-found : goal.invariant_of-self-in_default-found
invariant_of-self-in_default-found c = (
  engine_ran (scene c.self.inside.assignment c.self.inside.watched) (scene c.run.new.assignment c.run.new.watched) c.self.inside.heads.items c.self.inside.head c.run.new.head c.self.inside.refuted
      c.in_default.is c.assigned_law.ensures.assigned.reasons_counted c.self.invariant.0 c.run.ensures.ran,
  omega (arith, c.self.invariant.1, ran_vars _ _ _ _ c.run.ensures.ran),
)

pub invariant_of-self-2 : goal.invariant_of-self-2
invariant_of-self-2 c = (
  engine_ran (scene c.self.inside.assignment c.self.inside.watched) (scene c.run.new.assignment c.run.new.watched) c.self.inside.heads.items c.self.inside.head c.run.new.head c.self.inside.refuted
      c.in_default.is c.assigned_law.ensures.assigned.reasons_counted c.self.invariant.0 c.run.ensures.ran,
  omega (arith, c.self.invariant.1, ran_vars _ _ _ _ c.run.ensures.ran),
)

pub returns-in_err-found-clause-extends : goal.returns-in_err-found-clause-extends
returns-in_err-found-clause-extends c =
    subst (λ (t : Trail). Extends t (record { vars = c.run.new.assignment.vars; clauses = c.run.new.watched.clauses; lits = c.run.new.assignment.lits; reasons = c.run.new.assignment.reasons; starts = c.run.new.assignment.starts })) c.self.view_is
    (extends_grown c.self.inside.assignment c.run.new.assignment c.self.inside.watched.clauses c.run.new.watched.clauses c.run.ensures.ran.grown c.assigned_law.ensures.assigned.reasons_counted)

pub returns-in_default-found-clause-extends : goal.returns-in_default-found-clause-extends
returns-in_default-found-clause-extends c =
    subst (λ (t : Trail). Extends t (record { vars = c.run.new.assignment.vars; clauses = c.run.new.watched.clauses; lits = c.run.new.assignment.lits; reasons = c.run.new.assignment.reasons; starts = c.run.new.assignment.starts })) c.self.view_is
    (extends_grown c.self.inside.assignment c.run.new.assignment c.self.inside.watched.clauses c.run.new.watched.clauses c.run.ensures.ran.grown c.assigned_law.ensures.assigned.reasons_counted)

pub returns-clause-extends : goal.returns-clause-extends
returns-clause-extends c =
    subst (λ (t : Trail). Extends t (record { vars = c.run.new.assignment.vars; clauses = c.run.new.watched.clauses; lits = c.run.new.assignment.lits; reasons = c.run.new.assignment.reasons; starts = c.run.new.assignment.starts })) c.self.view_is
    (extends_grown c.self.inside.assignment c.run.new.assignment c.self.inside.watched.clauses c.run.new.watched.clauses c.run.ensures.ran.grown c.assigned_law.ensures.assigned.reasons_counted)

pub returns-in_default-found-clause-quiet : goal.returns-in_default-found-clause-quiet
returns-in_default-found-clause-quiet c = λ e.
    let is = c.in_ok-found.was ∙ ap Ok c.in_default-found.is in
    let engine = engine_ran (scene c.self.inside.assignment c.self.inside.watched) (scene c.run.new.assignment c.run.new.watched) c.self.inside.heads.items c.self.inside.head c.run.new.head c.self.inside.refuted
    c.in_default.is c.assigned_law.ensures.assigned.reasons_counted c.self.invariant.0 c.run.ensures.ran in
    engine_quiet (scene c.run.new.assignment c.run.new.watched) c.self.inside.heads.items c.run.new.head c.self.inside.refuted c.in_default.is engine (c.run.ensures.finished is) (c.run.ensures.consistent is)
