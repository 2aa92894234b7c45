use Rattle.std.proofs.Common.{◌≡◌, length}
use Rattle.pb_outside.proofs.Written.{HasWritten}
use Rattle.pb_outside.proofs.streams.StreamSinkSink.write.Given as goal

abbrev pub invariant-loop-rest : goal.invariant-loop-rest
invariant-loop-rest g l = record {
  count : l.self.faults ≡ l.initial.self.faults;
  written : HasWritten l.piece l.rest (g.W.Write.contents l.initial.self.writer) (g.W.Write.contents l.self.writer);
}

abbrev pub decreases-loop-rest : goal.decreases-loop-rest
decreases-loop-rest g l = length l.rest
