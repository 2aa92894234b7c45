use Rattle.chains.proofs.GrowthLaws.{grows_twice}
use Rattle.chains.proofs.again.derive_again.Goals as goal

pub returns-in_err-place : goal.returns-in_err-place
returns-in_err-place g c = grows_twice c.args.kernel.now c.loop-at.kernel c.rederive.new.kernel c.loop-at.invariant c.rederive.ensures

pub returns-in_err-put : goal.returns-in_err-put
returns-in_err-put g c = grows_twice c.args.kernel.now c.loop-at.kernel c.rederive.new.kernel c.loop-at.invariant c.rederive.ensures

pub loop-at-preserved : goal.loop-at-preserved
loop-at-preserved g c = grows_twice c.args.kernel.now c.loop-at.kernel c.rederive.new.kernel c.loop-at.invariant c.rederive.ensures
