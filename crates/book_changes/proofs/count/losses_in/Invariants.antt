use Rattle.std.proofs.Common.{◌≡◌, ◌+◌, ◌≤◌, drop, length}
use Rattle.std.specs.List.{filter}
use Rattle.book_changes.specs.ChangesText.{is_loss}
use Rattle.book_changes.proofs.count.losses_in.Given as goal

abbrev pub invariant-loop-note : goal.invariant-loop-note
invariant-loop-note l = record {
  counted : l.count + length (filter is_loss (drop l.note-index l.notes)) ≡ length (filter is_loss l.notes);
  few : l.count ≤ l.note-index;
}
