use Rattle.std.proofs.Common.{◌≡◌, length}
use Rattle.propagate.proofs.BlockLaws.{AreLaid}
use Rattle.propagate.proofs.watch_lists.WatchLists.with_rooms.Given as goal

abbrev pub invariant-loop-room : goal.invariant-loop-room
invariant-loop-room l = record { laid : AreLaid l.spans.items l.end; count : length l.spans.items ≡ l.room-index }
