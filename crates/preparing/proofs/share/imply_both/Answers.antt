use Rattle.chains.proofs.GrowthLaws.{grows_twice}
use Rattle.preparing.proofs.share.imply_both.Goals as goal

pub returns : goal.returns
returns c = grows_twice c.args.kernel.now c.imply.new.kernel c.imply-2.new.kernel (c.in_ok-imply.ensures) c.imply-2.ensures
