-- The sets so far are good on the day.
use Rattle.std.proofs.Common.{All, length}
use Rattle.slice_hints.specs.Found.{IsFound, KnowsUsages}
use Rattle.slice_hints.proofs.sets.Sets.put_earlier.Given as goal

abbrev pub invariant-loop-found : goal.invariant-loop-found
invariant-loop-found l = All (IsFound l.book l.day) l.self × All (KnowsUsages l.book) l.earlier.items

abbrev pub decreases-loop-found : goal.decreases-loop-found
decreases-loop-found l = length l.earlier.items
