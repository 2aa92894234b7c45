use Rattle.std.proofs.Common.{◌≡◌, drop}
use Rattle.supplement_findings.specs.Counting.{over}
use Rattle.supplement_findings.proofs.counting.over.Given as goal

abbrev pub invariant-loop-place : goal.invariant-loop-place
invariant-loop-place l = over l.place (drop l.place l.tallies) ≡ over 0 l.tallies
