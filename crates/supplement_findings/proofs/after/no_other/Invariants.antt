use Rattle.std.proofs.Common.{◌≡◌, not, eqb, drop}
use Rattle.std.specs.List.{filter}
use Rattle.supplement_findings.specs.Touching.{no_other, and_all_absent}
use Rattle.supplement_findings.proofs.after.no_other.Given as goal

abbrev pub invariant-loop-place : goal.invariant-loop-place
invariant-loop-place l = and_all_absent l.none (filter (λ k. not (eqb k l.added)) (drop l.place-index l.group)) ≡ no_other l.added l.group
