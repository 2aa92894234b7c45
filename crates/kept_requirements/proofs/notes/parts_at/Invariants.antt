use Rattle.std.proofs.Common.{◌≡◌, ◌++◌, drop}
use Rattle.kept_requirements.specs.Notes.{parts_at}
use Rattle.kept_requirements.proofs.notes.parts_at.Given as goal

abbrev pub invariant-loop-row : goal.invariant-loop-row
invariant-loop-row l = l.parts.items ++ parts_at (drop l.row-index l.rows) l.place ≡ parts_at l.rows l.place
