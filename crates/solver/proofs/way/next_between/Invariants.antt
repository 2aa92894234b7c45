use Rattle.std.proofs.Common.{length}
use Rattle.solver.proofs.way.next_between.Given as goal

abbrev pub decreases-loop-place : goal.decreases-loop-place
decreases-loop-place l = length l.between.items
