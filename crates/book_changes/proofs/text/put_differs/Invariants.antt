use Rattle.std.proofs.Common.{◌≡◌, ◌++◌, drop}
use Rattle.std.specs.List.{flat_map}
use Rattle.book_changes.specs.ChangesText.{differ_line}
use Rattle.book_changes.proofs.text.put_differs.Given as goal

abbrev pub invariant-loop-note : goal.invariant-loop-note
invariant-loop-note l = l.text ++ flat_map (differ_line l.budget) (drop l.note-index l.notes) ≡ l.initial.text ++ flat_map (differ_line l.budget) l.notes
