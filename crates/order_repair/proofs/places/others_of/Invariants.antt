use Rattle.std.proofs.Common.{◌≡◌, ◌++◌, drop}
use Rattle.order_repair.specs.Places.{others_from, others_of}
use Rattle.order_repair.proofs.places.others_of.Given as goal

-- the codes so far and those of what is left of the set make the whole
abbrev pub invariant-loop-code : goal.invariant-loop-code
invariant-loop-code l = l.others.items ++ others_from l.code (drop l.code l.set) l.kept ≡ others_of l.set l.kept
