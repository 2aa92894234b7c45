use Rattle.chains.proofs.GrowthLaws.{grows_twice}
use Rattle.preparing.proofs.refute.core_against.Goals as goal

pub returns-in_err-at : goal.returns-in_err-at
returns-in_err-at c = grows_twice c.args.kernel.now c.way_back.new.kernel c.derive_back.new.kernel c.way_back.ensures c.derive_back.ensures

pub returns : goal.returns
returns c = grows_twice c.args.kernel.now c.way_back.new.kernel c.derive_back.new.kernel c.way_back.ensures c.derive_back.ensures
