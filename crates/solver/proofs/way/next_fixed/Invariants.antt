use Rattle.std.proofs.Common.{◌+◌, length}
use Rattle.std.specs.BinaryHeap.{heap_len}
use Rattle.solver.proofs.way.next_fixed.Given as goal

abbrev pub decreases-loop-place : goal.decreases-loop-place
decreases-loop-place l = length l.way.fixed.items + heap_len l.way.ahead
