use Rattle.std.proofs.Common.{◌≡◌, length}
use Rattle.order_again.proofs.workers.untold.Given as goal

abbrev pub invariant-loop : goal.invariant-loop
invariant-loop l = length l.told.items ≡ l.counter
