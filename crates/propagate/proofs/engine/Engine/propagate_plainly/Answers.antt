use Rattle.std.proofs.Common.{◌≡◌, ℕ, List, sym, subst, ◌∙◌, ap, arith}
use Rattle.propagate.specs.Trail.{Trail}
use Rattle.propagate.specs.Engine.{Extends}
use Rattle.propagate.specs.Assignment.{Assigned}
use Rattle.propagate.specs.Watching.{AreReasons}
use Rattle.propagate.proofs.PlainLaws.{engine_grown}
use Rattle.propagate.proofs.EngineLaws.{extends_grown}
use Rattle.propagate.proofs.engine.Engine.propagate_plainly.Goals as goal

pub invariant_of-self : goal.invariant_of-self
invariant_of-self c =
    let same : c.args.pool.now.clauses ≡ c.self.inside.watched.clauses = c.requires ∙ sym (ap (λ (t : Trail). t.clauses) c.self.view_is) in
    let reasoned : AreReasons c.self.inside.watched.clauses c.run_plainly.new.assignment =
    subst (λ (cs : List (List ℕ)). AreReasons cs c.run_plainly.new.assignment) same (c.run_plainly.ensures.reasoned
    (subst (λ (cs : List (List ℕ)). AreReasons cs c.self.inside.assignment) (sym same) c.self.invariant.0.reasoned)) in (
      engine_grown c.self.inside.assignment c.run_plainly.new.assignment c.self.inside.watched _ c.self.inside.refuted c.run_plainly.ensures.grown reasoned c.assigned_law.ensures.assigned.reasons_counted c.self.invariant.0,
      omega (arith, c.self.invariant.1, ap (λ (a : Assigned). a.vars) c.run_plainly.ensures.grown.is),
    )

pub returns-clause-extends : goal.returns-clause-extends
returns-clause-extends c =
    subst (λ (t : Trail). Extends t (record { vars = c.run_plainly.new.assignment.vars; clauses = c.self.inside.watched.clauses; lits = c.run_plainly.new.assignment.lits; reasons = c.run_plainly.new.assignment.reasons; starts = c.run_plainly.new.assignment.starts })) c.self.view_is
    (extends_grown c.self.inside.assignment c.run_plainly.new.assignment c.self.inside.watched.clauses c.self.inside.watched.clauses c.run_plainly.ensures.grown c.assigned_law.ensures.assigned.reasons_counted)
