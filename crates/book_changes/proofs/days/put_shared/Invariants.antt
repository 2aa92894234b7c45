use Rattle.std.proofs.Common.{◌≡◌, ◌++◌, take}
use Rattle.std.specs.List.{flat_map}
use Rattle.book_changes.specs.Days.{shared}
use Rattle.book_changes.proofs.days.put_shared.Given as goal

abbrev pub invariant-loop-other : goal.invariant-loop-other
invariant-loop-other l = l.runs.items ≡ l.initial.runs.items ++ flat_map (shared l.own) (take l.other-index l.slices)
