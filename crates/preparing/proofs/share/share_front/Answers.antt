use Rattle.chains.proofs.GrowthLaws.{grows_twice}
use Rattle.preparing.proofs.share.share_front.Goals as goal

pub returns-in_err-imply_each : goal.returns-in_err-imply_each
returns-in_err-imply_each c = grows_twice c.args.kernel.now c.take_apart.new.kernel c.imply_each.new.kernel c.take_apart.ensures c.imply_each.ensures

pub returns : goal.returns
returns c = grows_twice c.args.kernel.now c.take_apart.new.kernel c.imply_each.new.kernel c.take_apart.ensures c.imply_each.ensures
