use Rattle.std.proofs.Common.{arith}
use Rattle.book_changes.proofs.TextLaws.{days_more, days_put}
use Rattle.book_changes.proofs.text.put_pairs.Goals as goal

pub loop-other-preserved : goal.loop-other-preserved
loop-other-preserved c =
    days_more c.args.run.now c.args.later.now c.loop-other.other-index c.other-item.result c.loop-other.pending c.in_ok-next.next c.loop-other.text c.put_closed.new.text _ (omega arith)
    c.other-item.is c.in_ok-next.ensures.pending c.in_ok-next.ensures.text c.loop-other.invariant

pub returns : goal.returns
returns c =
    days_put c.put_pair.result c.args.run.now c.args.later.now c.loop-other.other-index c.loop-other.pending c.loop-other.text c.put_pair.new.text _ (omega arith)
    c.put_pair.ensures c.loop-other.invariant
