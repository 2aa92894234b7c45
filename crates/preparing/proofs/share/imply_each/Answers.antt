use Rattle.chains.proofs.GrowthLaws.{grows_twice}
use Rattle.preparing.proofs.share.imply_each.Goals as goal

pub returns-in_err-imply_both : goal.returns-in_err-imply_both
returns-in_err-imply_both c = grows_twice c.args.kernel.now c.loop-other.kernel c.imply_both.new.kernel c.loop-other.invariant c.imply_both.ensures

pub loop-other-preserved : goal.loop-other-preserved
loop-other-preserved c = grows_twice c.args.kernel.now c.loop-other.kernel c.imply_both.new.kernel c.loop-other.invariant c.imply_both.ensures
