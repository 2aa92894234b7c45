use Rattle.chains.proofs.GrowthLaws.{grows_twice}
use Rattle.preparing.proofs.share.share_disjunctions.Goals as goal

pub returns : goal.returns
returns c = grows_twice c.args.kernel.now c.exclude_codes.new.kernel c.share_all.new.kernel (c.in_ok-exclude_codes.ensures) c.share_all.ensures
