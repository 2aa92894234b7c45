-- The slices so far are told of.
use Rattle.std.proofs.Common.{◌≡◌, false, length, take, All}
use Rattle.std.specs.List.{list_any}
use Rattle.pb_base.specs.InParts.{InParts}
use Rattle.slice_hints.specs.Found.{KnowsUsages}
use Rattle.findings.specs.Notes.{SliceNotes}
use Rattle.findings.specs.Answering.{IsShownIn, inquiry, stops}
use Rattle.findings.proofs.check.check_each.Given as goal

abbrev pub invariant-loop-number : goal.invariant-loop-number
invariant-loop-number l = record {
  notes : InParts (SliceNotes (inquiry l.book l.effort)) (take l.number l.slices) l.all.notes.items;
  stopped : l.all.stopped ≡ list_any stops l.all.notes.items;
  shown : l.all.stopped ≡ false → IsShownIn l.book (take l.number l.slices) (length l.slices) l.all.text;
  earlier : All (KnowsUsages l.book) l.earlier.sets.items;
}
