use Rattle.std.proofs.Common.{◌≡◌, ◌++◌, drop}
use Rattle.std.specs.List.{flat_map}
use Rattle.supplement_findings.specs.SupplementText.{supplement_note_text}
use Rattle.supplement_findings.proofs.text.put_notes.Given as goal

-- the text so far and the lines of the notes that are left make the whole
abbrev pub invariant-loop-note : goal.invariant-loop-note
invariant-loop-note l = l.text ++ flat_map (supplement_note_text l.book) (drop l.note-index l.notes) ≡ l.initial.text ++ flat_map (supplement_note_text l.book) l.notes
