use Rattle.std.proofs.Common.{All, List, sym, subst}
use Rattle.pb_base.specs.InParts.{InParts}
use Rattle.book_model.specs.declared.record.Slice.{Slice}
use Rattle.derivation.specs.Limits.{slices_within}
use Rattle.findings.specs.Checkable.{IsCheckable}
use Rattle.findings.specs.Notes.{Inquiry, SliceNotes}
use Rattle.findings.proofs.BookLaws.{refusal_passed}
use Rattle.findings.proofs.SharedLaws.{checkable_within}
use Rattle.findings.proofs.report_by.report_book_by.Goals as goal

pub shared_notes-requires-clause-slices : goal.shared_notes-requires-clause-slices
shared_notes-requires-clause-slices g c κs lives =
    subst (All (IsCheckable c.args.book.now)) (sym c.as_slice.ensures)
    (checkable_within c.args.book.now c.in_ok-slices.slices c.book_laws.ensures.term c.in_ok-slices.ensures.answer c.in_ok-slices.ensures.within)

pub returns-in_err-slices-clause-limits : goal.returns-in_err-slices-clause-limits
returns-in_err-slices-clause-limits g c =
    refusal_passed c.from_residual.result c.in_err-slices.field-0.0 (slices_within c.args.book.now) c.from_residual.ensures c.in_err-slices.ensures.answer

pub returns-clause-report : goal.returns-clause-report
returns-clause-report g c =
    let i : Inquiry = record { book = c.args.book.now; ask = c.args.ask; budget = c.args.budget } in
    record {
      slices = c.in_ok-slices.slices;
      within = c.in_ok-slices.ensures.answer;
      each =
          subst (InParts (SliceNotes i) c.in_ok-slices.slices) (sym c.of-report.ensures)
          (subst (λ (ss : List Slice). InParts (SliceNotes i) ss c.in_ok-notes.notes.items) c.as_slice.ensures c.in_ok-notes.ensures);
    }
