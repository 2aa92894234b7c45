use Rattle.std.specs.BinaryHeap.{heap_len}
use Rattle.preparing.proofs.shortcut.next_ahead.Given as goal

abbrev pub decreases-loop-place : goal.decreases-loop-place
decreases-loop-place l = heap_len l.ahead
