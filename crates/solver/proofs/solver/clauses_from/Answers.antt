use Rattle.std.proofs.Common.{sym, ◌∙◌, arith}
use Rattle.solver.proofs.EndLaws.{clauses_more, drop_none, drop_all}
use Rattle.solver.proofs.solver.clauses_from.Goals as goal

pub loop-at-init : goal.loop-at-init
loop-at-init c = c.new-learnt.ensures ∙ sym (drop_none c.args.first c.args.pool.now.clauses)

pub loop-at-preserved : goal.loop-at-preserved
loop-at-preserved c =
    let more = c.loop-at-test.true in
    clauses_more c.args.first c.loop-at.at c.args.pool.now.clauses c.loop-at.learnt.clauses c.add.new.self.clauses c.lits.result.now c.loop-at.auto.at (omega (arith, more, c.len-at-end.ensures))
    c.loop-at.invariant c.lits.ensures.clause c.lits.ensures.rising c.in_ok-add.ensures.ok

pub returns : goal.returns
returns c =
    let end = c.loop-at-test.false in
    c.loop-at.invariant ∙ drop_all c.args.first c.loop-at.at c.args.pool.now.clauses (omega (arith, end, c.len-at-end.ensures))
