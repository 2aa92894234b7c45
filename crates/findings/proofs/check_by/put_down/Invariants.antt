-- The checks so far are put down.
use Rattle.std.proofs.Common.{◌≡◌, false, List, length, take}
use Rattle.std.specs.List.{list_any}
use Rattle.pb_base.specs.InParts.{InParts}
use Rattle.findings.specs.Answering.{IsShownIn, stops}
use Rattle.findings.specs.declared.report.Note.{Note}
use Rattle.findings.specs.declared.slice.SliceCheck.{SliceCheck}
use Rattle.findings.proofs.check_by.put_down.Given as goal

abbrev pub invariant-loop-checked : goal.invariant-loop-checked
invariant-loop-checked l = record {
  number : l.number ≡ length l.yielded;
  notes : InParts (λ (checked : SliceCheck) (own : List Note). checked.notes.items ≡ own) l.yielded l.all.notes.items;
  stopped : l.all.stopped ≡ list_any stops l.all.notes.items;
  shown : l.all.stopped ≡ false → IsShownIn l.book (take l.number l.slices) (length l.slices) l.all.text;
}
