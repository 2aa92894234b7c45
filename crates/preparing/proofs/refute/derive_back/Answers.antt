use Rattle.chains.proofs.GrowthLaws.{grows_twice}
use Rattle.preparing.proofs.refute.derive_back.Goals as goal

pub returns-in_err-derived : goal.returns-in_err-derived
returns-in_err-derived c = grows_twice c.args.kernel.now c.go_back.new.kernel c.derive.new.kernel c.go_back.ensures c.derive.ensures.grows

pub returns : goal.returns
returns c = grows_twice c.args.kernel.now c.go_back.new.kernel c.derive.new.kernel c.go_back.ensures c.derive.ensures.grows
