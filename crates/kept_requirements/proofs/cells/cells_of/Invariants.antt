use Rattle.std.proofs.Common.{◌≡◌, ◌++◌, drop}
use Rattle.kept_requirements.specs.Notes.{cells_of}
use Rattle.kept_requirements.proofs.cells.cells_of.Given as goal

abbrev pub invariant-loop-requirement : goal.invariant-loop-requirement
invariant-loop-requirement l = l.cells ++ cells_of l.slice (drop l.requirement-index l.requirements) l.rest ≡ cells_of l.slice l.requirements l.answers
