use Rattle.std.proofs.Common.{◌≡◌, ◌++◌, drop}
use Rattle.order_repair.specs.Places.{left_out}
use Rattle.order_repair.proofs.places.left_out.Given as goal

abbrev pub invariant-loop-code : goal.invariant-loop-code
invariant-loop-code l = l.left.items ++ left_out (drop l.code-index l.chosen) l.kept ≡ left_out l.chosen l.kept
