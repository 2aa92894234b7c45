use Rattle.std.proofs.Common.{◌≡◌, [], drop}
use Rattle.kept_requirements.specs.Notes.{runs_on}
use Rattle.kept_requirements.proofs.notes.runs.Given as goal

abbrev pub invariant-loop-part : goal.invariant-loop-part
invariant-loop-part l = runs_on l.unmet l.id l.notes.items (drop l.part-index l.parts) ≡ runs_on l.unmet l.id [] l.parts
