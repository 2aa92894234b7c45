use Rattle.chains.proofs.GrowthLaws.{grows_twice}
use Rattle.preparing.proofs.exclude.exclude_codes.Goals as goal

pub returns-in_err-exclude_leaves : goal.returns-in_err-exclude_leaves
returns-in_err-exclude_leaves c = grows_twice c.args.kernel.now c.loop-exclusion.kernel c.exclude_leaves.new.kernel c.loop-exclusion.invariant c.exclude_leaves.ensures

pub loop-exclusion-preserved : goal.loop-exclusion-preserved
loop-exclusion-preserved c = grows_twice c.args.kernel.now c.loop-exclusion.kernel c.exclude_leaves.new.kernel c.loop-exclusion.invariant c.exclude_leaves.ensures
