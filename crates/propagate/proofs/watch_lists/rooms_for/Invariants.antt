use Rattle.std.proofs.Common.{◌≡◌, length}
use Rattle.propagate.proofs.watch_lists.rooms_for.Given as goal

abbrev pub invariant-loop-at : goal.invariant-loop-at
invariant-loop-at l = length l.rooms.items ≡ l.literals
