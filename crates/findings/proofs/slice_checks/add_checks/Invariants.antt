-- The slices so far are checked.
use Rattle.std.proofs.Common.{take, All}
use Rattle.std.specs.List.{AllZip}
use Rattle.slice_hints.specs.Found.{KnowsUsages}
use Rattle.findings.specs.Checked.{IsChecked}
use Rattle.findings.proofs.slice_checks.add_checks.Given as goal

abbrev pub invariant-loop-slice : goal.invariant-loop-slice
invariant-loop-slice l = record {
  checked : AllZip (IsChecked l.book l.effort) (take l.slice-index l.slices) l.checks.items;
  earlier : All (KnowsUsages l.book) l.earlier.sets.items;
}
