use Rattle.order_added.proofs.PassLaws.{needing_begun, needing_more}
use Rattle.order_added.proofs.adding.needed_of.Goals as goal

pub loop-needed-init : goal.loop-needed-init
loop-needed-init c = needing_begun c.args.judge.now c.args.others.items c.requires

pub loop-needed-preserved : goal.loop-needed-preserved
loop-needed-preserved c =
    needing_more c.args.judge.now c.args.others.items c.loop-needed.added.items c.pass.new.added.items c.loop-needed.needed c.in_ok-needed.needed
    c.loop-needed.invariant c.in_ok-needed.ensures.passes c.in_ok-needed.ensures.among c.in_ok-needed.ensures.passed
