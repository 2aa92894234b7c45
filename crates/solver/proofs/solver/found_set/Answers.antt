use Rattle.solver.proofs.EndLaws.{begins_of}
use Rattle.solver.proofs.solver.found_set.Goals as goal

pub returns : goal.returns
returns c = begins_of c.args.engine.now c.args.assumptions.now c.trail.ensures.trail c.requires.full c.requires.held c.args.kernel.now c.args.codes c.in_ok-set.set c.requires.attached c.requires.below c.in_ok-set.ensures.counted c.in_ok-set.ensures.codes
