use Rattle.chains.proofs.GrowthLaws.{grows_twice}
use Rattle.preparing.proofs.refute.go_back.Goals as goal

pub returns-in_default : goal.returns-in_default
returns-in_default c = c.loop.invariant

pub returns-in_err-step_back : goal.returns-in_err-step_back
returns-in_err-step_back c = grows_twice c.args.kernel.now c.loop.kernel c.step_back.new.kernel c.loop.invariant c.step_back.ensures

pub loop-preserved : goal.loop-preserved
loop-preserved c = grows_twice c.args.kernel.now c.loop.kernel c.step_back.new.kernel c.loop.invariant c.step_back.ensures
