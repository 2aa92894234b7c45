use Rattle.std.proofs.Common.{◌≡◌, ◌++◌, length}
use Rattle.pb_outside.proofs.Written.{HasWritten}
use Rattle.pb_outside.proofs.streams.StreamSinkSink.write_both.Given as goal

abbrev pub invariant-loop-front : goal.invariant-loop-front
invariant-loop-front g l = record {
  count : l.self.faults ≡ l.initial.self.faults;
  written : HasWritten (l.first ++ l.second) (l.front ++ l.rest) (g.W.Write.contents l.initial.self.writer) (g.W.Write.contents l.self.writer);
}

abbrev pub decreases-loop-front : goal.decreases-loop-front
decreases-loop-front g l = length (l.front ++ l.rest)
