use Rattle.std.proofs.Common.{List, sym, subst}
use Rattle.pb_base.specs.InParts.{InParts}
use Rattle.book_model.specs.declared.record.Slice.{Slice}
use Rattle.supplement_findings.specs.Answering.{inquiry}
use Rattle.supplement_findings.specs.Limits.{slices_within}
use Rattle.supplement_findings.specs.Notes.{SliceNotes}
use Rattle.supplement_findings.proofs.ReportLaws.{refusal_passed}
use Rattle.supplement_findings.proofs.check.check_supplements.Goals as goal

pub returns-in_err-slices-clause-limits : goal.returns-in_err-slices-clause-limits
returns-in_err-slices-clause-limits g c =
    refusal_passed c.from_residual.result c.in_err-slices.field-0.0 (slices_within c.args.book.now) c.from_residual.ensures c.in_err-slices.ensures.answer

pub returns-clause-report : goal.returns-clause-report
returns-clause-report g c =
    let i = inquiry c.args.book.now c.args.budget in
    record {
      slices = c.in_ok-slices.slices;
      within = c.in_ok-slices.ensures.answer;
      each =
          subst (InParts (SliceNotes i) c.in_ok-slices.slices) (sym c.of.ensures)
          (subst (λ (ss : List Slice). InParts (SliceNotes i) ss c.in_ok-notes.notes.items) c.as_slice.ensures c.in_ok-notes.ensures);
    }
