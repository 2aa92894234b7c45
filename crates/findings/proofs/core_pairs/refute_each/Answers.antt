use Rattle.solver.proofs.PoolLaws.{onwards_twice}
use Rattle.findings.proofs.core_pairs.refute_each.Goals as goal

pub loop-pair-preserved : goal.loop-pair-preserved
loop-pair-preserved c = onwards_twice c.args.solver.now c.loop-pair.solver c.refute_one.new.solver c.loop-pair.invariant c.refute_one.ensures

pub returns-in_err-refute_one : goal.returns-in_err-refute_one
returns-in_err-refute_one c = onwards_twice c.args.solver.now c.loop-pair.solver c.refute_one.new.solver c.loop-pair.invariant c.refute_one.ensures
