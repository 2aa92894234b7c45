use Rattle.supplement_findings.proofs.CountLaws.{IsCounting}
use Rattle.supplement_findings.proofs.counting.all_counted.Given as goal

abbrev pub invariant-loop-place : goal.invariant-loop-place
invariant-loop-place l = IsCounting l.book l.slices l.place l.tallies.items
