use Rattle.std.proofs.Common.{◌++◌, length}
use Rattle.pb_outside.proofs.Written.{HasWritten}
use Rattle.tcp_door.proofs.patience.write_parts.Given as goal

abbrev pub invariant-loop-front : goal.invariant-loop-front
invariant-loop-front g l = HasWritten (l.first ++ l.second) (l.front ++ l.rest) (g.S.WriteBoth.contents l.initial.stream) (g.S.WriteBoth.contents l.stream)

abbrev pub decreases-loop-front : goal.decreases-loop-front
decreases-loop-front g l = length (l.front ++ l.rest)
