use Rattle.std.proofs.Common.{◌≡◌, ◌+◌, ◌++◌, drop}
use Rattle.supplement_findings.specs.Answering.{goals_of}
use Rattle.supplement_findings.proofs.goals.goals_from.Given as goal

abbrev pub invariant-loop-place : goal.invariant-loop-place
invariant-loop-place l = l.goals.items ++ goals_of (l.first_goal + l.place) (drop l.place l.questions) ≡ goals_of l.first_goal l.questions
