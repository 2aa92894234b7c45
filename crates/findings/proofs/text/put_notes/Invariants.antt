use Rattle.std.proofs.Common.{◌≡◌, ◌++◌, drop}
use Rattle.std.specs.List.{flat_map}
use Rattle.findings.specs.ReportText.{note_text}
use Rattle.findings.proofs.text.put_notes.Given as goal

-- the text so far and the lines of the notes that are left make the whole
abbrev pub invariant-loop-note : goal.invariant-loop-note
invariant-loop-note l = l.text ++ flat_map (note_text l.book) (drop l.note-index l.notes) ≡ l.initial.text ++ flat_map (note_text l.book) l.notes
