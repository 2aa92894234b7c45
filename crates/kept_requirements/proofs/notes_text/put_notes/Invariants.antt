use Rattle.std.proofs.Common.{◌≡◌, ◌++◌, drop}
use Rattle.std.specs.List.{flat_map}
use Rattle.kept_requirements.specs.NotesText.{note_text}
use Rattle.kept_requirements.proofs.notes_text.put_notes.Given as goal

abbrev pub invariant-loop-note : goal.invariant-loop-note
invariant-loop-note l = l.text ++ flat_map (note_text l.book l.budget) (drop l.note-index l.notes) ≡ l.initial.text ++ flat_map (note_text l.book l.budget) l.notes
