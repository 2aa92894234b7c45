use Rattle.chains.proofs.GrowthLaws.{grows_twice}
use Rattle.preparing.proofs.share.share_all.Goals as goal

pub returns-in_err-count : goal.returns-in_err-count
returns-in_err-count c = grows_twice c.args.kernel.now c.loop-at.kernel c.share_front.new.kernel c.loop-at.invariant c.share_front.ensures

pub loop-at-preserved : goal.loop-at-preserved
loop-at-preserved c = grows_twice c.args.kernel.now c.loop-at.kernel c.share_front.new.kernel c.loop-at.invariant c.share_front.ensures
