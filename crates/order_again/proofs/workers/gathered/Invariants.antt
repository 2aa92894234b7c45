use Rattle.std.proofs.Common.{◌≡◌, Ok, map, take}
use Rattle.order_again.proofs.workers.gathered.Given as goal

abbrev pub invariant-loop-one : goal.invariant-loop-one
invariant-loop-one l = take l.one-index l.told ≡ map Ok l.all.items
