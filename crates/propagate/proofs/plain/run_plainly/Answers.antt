use Rattle.std.proofs.Common.{arith, subst}
use Rattle.propagate.specs.Plain.{Says, IsForced}
use Rattle.propagate.specs.declared.plain.Saying.{Saying}
use Rattle.propagate.proofs.PlainLaws.{passing_first, passing_forced, passed_quiet, forced_reason, fewer_after}
use Rattle.propagate.proofs.plain.run_plainly.Goals as goal

pub loop-at-init : goal.loop-at-init
loop-at-init c = passing_first c.args.pool.now.clauses c.args.assignment.now

pub loop-at-smaller : goal.loop-at-smaller
loop-at-smaller c =
    let forced : IsForced c.loop-at.assignment.lits c.lits.result.now c.in-Literal.code = subst (λ (s : Saying). Says c.loop-at.assignment.lits c.lits.result.now s) c.in-Literal.is c.said_by.ensures in
    fewer_after c.args.pool.now.clauses c.loop-at.assignment c.put_only.new.assignment c.in-Literal.code c.loop-at.at c.put_only.ensures.assigned c.put_only.ensures.grown forced.not_true c.put_only.ensures.put

pub loop-at-preserved : goal.loop-at-preserved
loop-at-preserved c =
    let forced : IsForced c.loop-at.assignment.lits c.lits.result.now c.in-Literal.code = subst (λ (s : Saying). Says c.loop-at.assignment.lits c.lits.result.now s) c.in-Literal.is c.said_by.ensures in
    let reason = forced_reason c.args.pool.now.clauses c.lits.result.now c.loop-at.assignment.lits c.in-Literal.code c.loop-at.at (omega (arith, c.loop-at-test.true, c.len.ensures)) c.lits.ensures.clause forced in
    passing_forced c.args.pool.now.clauses c.args.assignment.now c.loop-at.assignment c.put_only.new.assignment c.loop-at.at c.loop-at.invariant c.put_only.ensures.grown
    (c.put_only.ensures.reasoned c.args.pool.now.clauses reason)

pub returns-clause-quiet : goal.returns-clause-quiet
returns-clause-quiet c = λ e. passed_quiet c.args.pool.now.clauses c.args.assignment.now c.loop-at.assignment c.loop-at.at c.assigned_law.ensures.assigned c.loop-at.invariant (omega (arith, c.loop-at-test.false, c.len.ensures))
