use Rattle.std.proofs.Common.{ap, take, ◌∙◌, arith}
use Rattle.book_changes.specs.ChangesText.{told_once}
use Rattle.book_changes.proofs.TextLaws.{count_more, count_ended}
use Rattle.book_changes.proofs.count.told_in.Goals as goal

pub loop-at-preserved : goal.loop-at-preserved
loop-at-preserved c =
    let runs = c.args.runs.now in
    let i = c.loop-at.at in
    count_more runs i c.index-runs-at.result (omega arith) c.loop-at.count c.in_ok-own.own _ _
    (c.in_ok-own.ensures ∙ ap (told_once (take i runs)) c.index-runs-at.is) c.in_ok-count.ensures c.loop-at.invariant

pub returns : goal.returns
returns c = count_ended c.args.runs.now c.loop-at.at c.loop-at.count _ (omega (arith, c.loop-at-test.false)) c.loop-at.invariant
