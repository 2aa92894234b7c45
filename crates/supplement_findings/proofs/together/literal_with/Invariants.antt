use Rattle.std.proofs.Common.{◌≡◌, drop}
use Rattle.supplement_findings.specs.Clauses.{literal_with}
use Rattle.supplement_findings.proofs.together.literal_with.Given as goal

abbrev pub invariant-loop-place : goal.invariant-loop-place
invariant-loop-place l = literal_with (drop l.place l.codes) (drop l.place l.lits) l.code ≡ literal_with l.codes l.lits l.code
