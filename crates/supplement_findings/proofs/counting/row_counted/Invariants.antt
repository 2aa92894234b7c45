use Rattle.std.proofs.Common.{◌≡◌, ◌++◌, map, drop}
use Rattle.supplement_findings.specs.Counting.{more}
use Rattle.supplement_findings.proofs.counting.row_counted.Given as goal

abbrev pub invariant-loop-tally : goal.invariant-loop-tally
invariant-loop-tally l = l.counted.items ++ map (more l.book l.row) (drop l.tally-index l.tallies) ≡ map (more l.book l.row) l.tallies
