-- The slices so far are told of.
use Rattle.std.proofs.Common.{take, All}
use Rattle.std.specs.List.{AllZip}
use Rattle.supplement_findings.specs.Answering.{IsCounted, inquiry}
use Rattle.supplement_findings.specs.Notes.{SliceNotes}
use Rattle.supplement_findings.proofs.slices.notes_of_each.Given as goal

abbrev pub invariant-loop-slice : goal.invariant-loop-slice
invariant-loop-slice l = record {
  each : AllZip (SliceNotes (inquiry l.book l.budget)) (take l.slice-index l.slices) l.each.items;
  counted : All (IsCounted l.book) l.sets;
}
