use Rattle.std.proofs.Common.{length}
use Rattle.pb_outside.proofs.Written.{HasWritten}
use Rattle.tcp_door.proofs.patience.write_rest.Given as goal

abbrev pub invariant-loop-left : goal.invariant-loop-left
invariant-loop-left g l = HasWritten l.rest l.left (g.S.WriteBoth.contents l.initial.stream) (g.S.WriteBoth.contents l.stream)

abbrev pub decreases-loop-left : goal.decreases-loop-left
decreases-loop-left g l = length l.left
