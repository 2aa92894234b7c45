use Rattle.std.proofs.Common.{◌≡◌, ◌++◌, drop}
use Rattle.kept_requirements.specs.Kept.{rules_on}
use Rattle.kept_requirements.proofs.slice.rules_on.Given as goal

abbrev pub invariant-loop-requirement : goal.invariant-loop-requirement
invariant-loop-requirement l = l.rules.items ++ rules_on l.book l.slice (drop l.requirement-index l.requirements) ≡ rules_on l.book l.slice l.requirements
