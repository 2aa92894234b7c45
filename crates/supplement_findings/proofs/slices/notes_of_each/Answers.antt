use Rattle.std.proofs.Common.{◌<◌, length, arith}
use Rattle.book_model.specs.declared.record.Slice.{Slice}
use Rattle.supplement_findings.specs.Answering.{inquiry}
use Rattle.supplement_findings.specs.Notes.{SliceNotes}
use Rattle.supplement_findings.proofs.SliceJoins.{zip_next}
use Rattle.supplement_findings.proofs.slices.notes_of_each.Goals as goal

pub loop-slice-preserved : goal.loop-slice-preserved
loop-slice-preserved c =
    let slices = c.args.slices.now in
    let k = c.loop-slice.slice-index in
    let none : Slice = record { first = 0; last = 0 } in
    let below : k < length slices = omega arith in
    record {
      each =
          zip_next (SliceNotes (inquiry c.args.book.now c.args.budget)) slices k none c.loop-slice.each.items c.push.new.self.items c.of.result below
          c.loop-slice.invariant.each (rw c.of.ensures c.in_ok-own.ensures.notes) c.in_ok-push.ensures.items;
      counted = c.in_ok-own.ensures.counted;
    }
