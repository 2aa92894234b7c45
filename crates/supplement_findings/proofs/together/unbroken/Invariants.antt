use Rattle.std.proofs.Common.{◌≡◌, drop}
use Rattle.supplement_findings.specs.Clauses.{and_rest, unbroken}
use Rattle.supplement_findings.specs.Touching.{afters_at}
use Rattle.supplement_findings.proofs.together.unbroken.Given as goal

abbrev pub invariant-loop-place : goal.invariant-loop-place
invariant-loop-place l = and_rest l.all (afters_at l.book l.day l.added (drop l.place-index l.touched)) ≡ unbroken l.book l.day l.added
