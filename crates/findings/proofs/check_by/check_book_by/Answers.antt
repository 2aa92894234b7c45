use Rattle.std.proofs.Common.{List, All, length, sym, subst}
use Rattle.pb_base.specs.InParts.{InParts}
use Rattle.book_model.specs.declared.record.Slice.{Slice}
use Rattle.derivation.specs.Limits.{slices_within}
use Rattle.findings.specs.Answering.{IsShownIn}
use Rattle.findings.specs.Checkable.{IsCheckable}
use Rattle.findings.specs.Notes.{Inquiry, SliceNotes}
use Rattle.findings.proofs.BookLaws.{refusal_passed}
use Rattle.findings.proofs.CheckLaws.{released_when}
use Rattle.findings.proofs.SharedLaws.{checkable_within}
use Rattle.findings.proofs.check_by.check_book_by.Goals as goal

pub shared_slices-requires-clause-slices : goal.shared_slices-requires-clause-slices
shared_slices-requires-clause-slices g c κs lives =
    subst (All (IsCheckable c.args.book.now)) (sym c.as_slice.ensures)
    (checkable_within c.args.book.now c.in_ok-slices.slices c.book_laws.ensures.term c.in_ok-slices.ensures.answer c.in_ok-slices.ensures.within)

pub returns-in_err-slices-clause-limits : goal.returns-in_err-slices-clause-limits
returns-in_err-slices-clause-limits g c =
    refusal_passed c.from_residual.result c.in_err-slices.field-0.0 (slices_within c.args.book.now) c.from_residual.ensures c.in_err-slices.ensures.answer

pub returns : goal.returns
returns g c =
    let b = c.args.book.now in
    let i : Inquiry = record { book = b; ask = c.args.ask; budget = c.args.budget } in
    let slices = c.in_ok-slices.slices in
    let all = c.in_ok-all.all in
    let told = c.in_ok-checked.ensures in
    let accepted = told.accepted slices c.in_ok-slices.ensures.answer
    (λ free. subst (λ (ss : List Slice). IsShownIn b ss (length ss) all.text) c.as_slice.ensures (c.in_ok-all.ensures.shown free)) in
    record {
      limits = tt;
      report = record {
        slices = slices;
        within = c.in_ok-slices.ensures.answer;
        each =
            subst (InParts (SliceNotes i) slices) (sym told.report)
            (subst (λ (ss : List Slice). InParts (SliceNotes i) ss all.notes.items) c.as_slice.ensures c.in_ok-all.ensures.notes);
      };
      cert = told.cert;
      accepted = accepted;
      released = λ verdict. released_when b c.in_ok-checked.checked.cert c.book_laws.ensures accepted (told.cert.1 verdict);
    }
