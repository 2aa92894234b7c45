use Rattle.chains.proofs.GrowthLaws.{grows_twice}
use Rattle.preparing.proofs.refute.core_of_conflict.Goals as goal

pub returns-in_err-at : goal.returns-in_err-at
returns-in_err-at c = grows_twice c.args.kernel.now c.derive_back.new.kernel c.derive_back-2.new.kernel c.derive_back.ensures c.derive_back-2.ensures

pub returns : goal.returns
returns c = grows_twice c.args.kernel.now c.derive_back.new.kernel c.derive_back-2.new.kernel c.derive_back.ensures c.derive_back-2.ensures
