use Rattle.std.proofs.Common.{◌≡◌, ◌+◌, ◌≤◌, drop, length}
use Rattle.std.specs.List.{filter}
use Rattle.book_compare.specs.CompareText.{is_finding}
use Rattle.book_compare.proofs.text.findings_in.Given as goal

abbrev pub invariant-loop-note : goal.invariant-loop-note
invariant-loop-note l = record {
  counted : l.count + length (filter is_finding (drop l.note-index l.notes)) ≡ length (filter is_finding l.notes);
  few : l.count ≤ l.note-index;
}
