use Rattle.std.proofs.Common.{◌≡◌, ◌++◌, map, drop}
use Rattle.supplement_findings.specs.Counting.{counted}
use Rattle.supplement_findings.specs.Questions.{breaks_from}
use Rattle.supplement_findings.proofs.counting.breaks_counted.Given as goal

abbrev pub invariant-loop-slice : goal.invariant-loop-slice
invariant-loop-slice l =
    let breaks = breaks_from 0 l.book.supplements in
    (l.row.items ≡ breaks) × (l.tallies.items ++ map (counted l.book breaks) (drop l.slice-index l.slices) ≡ map (counted l.book breaks) l.slices)
