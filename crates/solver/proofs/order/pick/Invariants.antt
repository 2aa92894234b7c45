use Rattle.std.proofs.Common.{length}
use Rattle.solver.proofs.order.pick.Given as goal

abbrev pub decreases-loop-lit : goal.decreases-loop-lit
decreases-loop-lit l = length l.order.ranking.entries.items

abbrev pub decreases-loop-hint : goal.decreases-loop-hint
decreases-loop-hint l = l.order.hints_left
