use Rattle.std.proofs.Common.{◌≡◌, ◌+◌, [], drop, take}
use Rattle.book_changes.specs.ChangesText.{told_behind}
use Rattle.book_changes.proofs.count.told_in.Given as goal

abbrev pub invariant-loop-at : goal.invariant-loop-at
invariant-loop-at l = l.count + told_behind (take l.at l.runs) (drop l.at l.runs) ≡ told_behind [] l.runs
