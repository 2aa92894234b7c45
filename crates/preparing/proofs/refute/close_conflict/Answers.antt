use Rattle.chains.proofs.GrowthLaws.{grows_twice}
use Rattle.preparing.proofs.refute.close_conflict.Goals as goal

pub returns-clause-grows : goal.returns-clause-grows
returns-clause-grows c = grows_twice c.args.kernel.now c.derive_back.new.kernel c.close_from.new.kernel c.derive_back.ensures c.close_from.ensures.grows
