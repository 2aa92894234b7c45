use Rattle.std.proofs.Common.{◌≡◌, ◌++◌, drop}
use Rattle.supplement_findings.specs.Questions.{swaps_from}
use Rattle.supplement_findings.proofs.questions.push_swaps.Given as goal

abbrev pub invariant-loop-place : goal.invariant-loop-place
invariant-loop-place l = l.questions.items ++ swaps_from l.place (drop l.place l.rules) ≡ l.initial.questions.items ++ swaps_from 0 l.rules
