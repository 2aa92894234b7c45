use Rattle.std.proofs.Common.{take}
use Rattle.pb_base.specs.InParts.{InParts}
use Rattle.kept_requirements.specs.Notes.{OwnNotes}
use Rattle.kept_requirements.proofs.notes.notes_of.Given as goal

abbrev pub invariant-loop-place : goal.invariant-loop-place
invariant-loop-place l = InParts (OwnNotes l.book l.budget l.slices) (take l.place l.requirements) l.notes.items
