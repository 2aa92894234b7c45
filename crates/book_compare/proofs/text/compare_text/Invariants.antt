use Rattle.std.proofs.Common.{◌≡◌, take}
use Rattle.std.specs.List.{flat_map}
use Rattle.book_compare.specs.CompareText.{note_line}
use Rattle.book_compare.proofs.text.compare_text.Given as goal

abbrev pub invariant-loop-note : goal.invariant-loop-note
invariant-loop-note l = l.text ≡ flat_map note_line (take l.note-index l.notes)
