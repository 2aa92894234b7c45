-- The sets so far are good on the day.
use Rattle.std.proofs.Common.{All}
use Rattle.slice_hints.specs.Found.{IsFound}
use Rattle.slice_hints.proofs.sets.Sets.put_each.Given as goal

abbrev pub invariant-loop-one : goal.invariant-loop-one
invariant-loop-one l = All (IsFound l.book l.day) l.self
