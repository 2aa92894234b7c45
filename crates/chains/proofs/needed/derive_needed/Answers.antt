use Rattle.chains.proofs.GrowthLaws.{grows_twice}
use Rattle.chains.proofs.needed.derive_needed.Goals as goal

pub returns-in_err-place : goal.returns-in_err-place
returns-in_err-place c = grows_twice c.args.kernel.now c.loop-at.kernel c.derive_one.new.kernel c.loop-at.invariant c.derive_one.ensures

pub returns-in_err-put : goal.returns-in_err-put
returns-in_err-put c = grows_twice c.args.kernel.now c.loop-at.kernel c.derive_one.new.kernel c.loop-at.invariant c.derive_one.ensures

pub loop-at-preserved : goal.loop-at-preserved
loop-at-preserved c = grows_twice c.args.kernel.now c.loop-at.kernel c.derive_one.new.kernel c.loop-at.invariant c.derive_one.ensures
