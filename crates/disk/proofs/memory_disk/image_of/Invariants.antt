use Rattle.std.proofs.Common.{drop}
use Rattle.disk.specs.Calls.{dones}
use Rattle.disk.proofs.Replays.{IsReplayed}
use Rattle.disk.proofs.memory_disk.image_of.Given as goal

abbrev pub invariant-loop-call : goal.invariant-loop-call
invariant-loop-call l = IsReplayed l.first.items (dones l.calls l.written) (drop l.call-index l.calls) l.bytes l.kept.items l.image.items
