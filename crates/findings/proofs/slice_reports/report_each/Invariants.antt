-- The slices so far are told of, and the sets are good on the day.
use Rattle.std.proofs.Common.{take, All}
use Rattle.std.specs.List.{AllZip}
use Rattle.book_clauses.specs.BookClauses.{AreUsages}
use Rattle.chains.specs.Growth.{given_of}
use Rattle.slice_hints.specs.Found.{IsFound}
use Rattle.findings.specs.Answering.{inquiry}
use Rattle.findings.specs.Core.{IsOverBook}
use Rattle.findings.specs.Notes.{SliceNotes}
use Rattle.findings.proofs.slice_reports.report_each.Given as goal

abbrev pub invariant-loop-slice : goal.invariant-loop-slice
invariant-loop-slice l = record {
  notes : AllZip (SliceNotes (inquiry l.book l.effort)) (take l.slice-index l.slices) l.reports.items;
  over : IsOverBook l.book l.coded.periods.now l.solver;
  usages : AreUsages l.book (given_of l.solver.kernel) l.solver.vars l.coded.usages.now;
  found : All (IsFound l.book l.day) l.sets;
}
