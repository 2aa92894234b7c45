use Rattle.std.proofs.Common.{All, sym, subst}
use Rattle.findings.specs.Checkable.{IsCheckable}
use Rattle.findings.proofs.SharedLaws.{checkable_within}
use Rattle.findings.proofs.check.report_book.Goals as goal

pub report_slices-requires-clause-slices : goal.report_slices-requires-clause-slices
report_slices-requires-clause-slices c =
    subst (All (IsCheckable c.args.book.now)) (sym c.as_slice.ensures)
    (checkable_within c.args.book.now c.in_ok-slices.slices c.book_laws.ensures.term c.in_ok-slices.ensures.answer c.in_ok-slices.ensures.within)
