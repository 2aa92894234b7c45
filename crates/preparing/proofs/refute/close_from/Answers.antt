use Rattle.chains.proofs.GrowthLaws.{grows_twice}
use Rattle.preparing.proofs.refute.close_from.Goals as goal

pub returns-in_err-at-clause-grows : goal.returns-in_err-at-clause-grows
returns-in_err-at-clause-grows c = grows_twice c.args.kernel.now c.go_back.new.kernel c.derive.new.kernel c.go_back.ensures c.derive.ensures.grows

pub returns-in_default-clause-grows : goal.returns-in_default-clause-grows
returns-in_default-clause-grows c = grows_twice c.args.kernel.now c.go_back.new.kernel c.derive.new.kernel c.go_back.ensures c.derive.ensures.grows

pub returns-clause-grows : goal.returns-clause-grows
returns-clause-grows c = grows_twice c.args.kernel.now c.go_back.new.kernel c.derive.new.kernel c.go_back.ensures c.derive.ensures.grows
