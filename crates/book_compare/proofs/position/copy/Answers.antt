use Rattle.std.proofs.Common.{arith, ◌∙◌}
use Rattle.std.proofs.lemmas.List.{take_all}
use Rattle.book_compare.proofs.CopyLaws.{copy_more}
use Rattle.book_compare.proofs.position.copy.Goals as goal

pub loop-at-preserved : goal.loop-at-preserved
loop-at-preserved c =
    let more = c.loop-at-test.true in
    copy_more c.loop-at.at c.args.pool.now.clauses c.loop-at.further.clauses c.add.new.self.clauses c.lits.result.now (omega (arith, more, c.len-at-end.ensures))
    c.loop-at.invariant c.lits.ensures.clause c.lits.ensures.rising c.in_ok-add.ensures.ok

pub returns : goal.returns
returns c =
    let end = c.loop-at-test.false in
    c.loop-at.invariant ∙ take_all c.loop-at.at c.args.pool.now.clauses (omega (arith, end, c.len-at-end.ensures))
