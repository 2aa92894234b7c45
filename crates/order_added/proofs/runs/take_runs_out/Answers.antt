use Rattle.std.proofs.Common.{arith}
use Rattle.order_added.proofs.PassLaws.{cutting_begun, cutting_more}
use Rattle.order_added.proofs.runs.take_runs_out.Goals as goal

pub loop-size-init : goal.loop-size-init
loop-size-init c = cutting_begun c.args.judge.now c.args.added.now.items 0 (omega arith) c.requires

pub loop-size-preserved : goal.loop-size-preserved
loop-size-preserved c =
    cutting_more c.args.judge.now c.args.added.now.items c.loop-size.added.items c.round.new.added.items 0 0
    c.loop-size.invariant c.in_ok-round.ensures.passes c.in_ok-round.ensures.among (omega arith)
