use Rattle.std.proofs.Common.{ℕ, Some, sym, subst, ◌∙◌, ap}
use Rattle.propagate.specs.Assignment.{Assigned, with_literal}
use Rattle.propagate.specs.Watching.{Grown, AreReasons}
use Rattle.propagate.proofs.AssignmentLaws.{true_if_known}
use Rattle.propagate.proofs.KeepLaws.{grown_not, grown_one, reasoned_one, counted_before}
use Rattle.propagate.proofs.visit.put_only.Goals as goal

pub returns-then-is_some-clause-grown : goal.returns-then-is_some-clause-grown
returns-then-is_some-clause-grown c = grown_not c.args.assignment.now

pub returns-then-is_some-clause-put : goal.returns-then-is_some-clause-put
returns-then-is_some-clause-put c = true_if_known c.args.assignment.now.lits c.args.code c.value.result c.value.ensures.value (sym c.is_some.ensures ∙ c.if-is_some.true) c.requires.not_false

pub returns-clause-grown : goal.returns-clause-grown
returns-clause-grown c =
    let is = c.put.ensures.literal ∙ ap (λ (l : ℕ). with_literal c.args.assignment.now l (Some c.args.clause)) c.literal.ensures in
    subst (λ (b : Assigned). Grown c.args.assignment.now b) (sym is) (grown_one c.args.assignment.now c.args.code c.args.clause)

pub returns-clause-reasoned : goal.returns-clause-reasoned
returns-clause-reasoned c = λ clauses reason all.
    let is = c.put.ensures.literal ∙ ap (λ (l : ℕ). with_literal c.args.assignment.now l (Some c.args.clause)) c.literal.ensures in
    let counted = counted_before c.args.assignment.now c.put.new.self c.args.code (Some c.args.clause) c.put.ensures.assigned is in
    subst (λ (b : Assigned). AreReasons clauses b) (sym is) (reasoned_one clauses c.args.assignment.now c.args.code c.args.clause counted reason all)
