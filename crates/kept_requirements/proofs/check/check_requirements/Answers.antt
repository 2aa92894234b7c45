use Rattle.std.proofs.Common.{List, subst}
use Rattle.pb_base.specs.InParts.{InParts}
use Rattle.book_model.specs.declared.record.Slice.{Slice}
use Rattle.book_model.specs.Slices.{slices_of}
use Rattle.kept_requirements.specs.Notes.{OwnNotes}
use Rattle.kept_requirements.proofs.RefusalLaws.{refusal_passed}
use Rattle.kept_requirements.proofs.check.check_requirements.Goals as goal

pub returns-in_err-slices-clause-limits : goal.returns-in_err-slices-clause-limits
returns-in_err-slices-clause-limits g c =
    refusal_passed c.from_residual.result c.in_err-slices.field-0.0 (slices_of c.args.book.now) c.from_residual.ensures c.in_err-slices.ensures.value

pub returns-clause-report : goal.returns-clause-report
returns-clause-report g c = record {
  slices = c.in_ok-slices.slices;
  within = c.in_ok-slices.ensures.value;
  each = subst (λ (ss : List Slice). InParts (OwnNotes c.args.book.now c.args.budget ss) c.args.requirements.now c.in_ok-notes.notes.items) c.as_slice.ensures c.in_ok-notes.ensures;
}
