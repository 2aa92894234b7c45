use Rattle.std.proofs.Common.{◌≡◌, ◌+◌, ◌≤◌, drop, length}
use Rattle.std.specs.List.{filter}
use Rattle.book_changes.specs.ChangesText.{is_difference}
use Rattle.book_changes.proofs.count.differences_in.Given as goal

abbrev pub invariant-loop-note : goal.invariant-loop-note
invariant-loop-note l = record {
  counted : l.count + length (filter is_difference (drop l.note-index l.notes)) ≡ length (filter is_difference l.notes);
  few : l.count ≤ l.note-index;
}
