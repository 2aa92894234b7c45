use Rattle.std.proofs.Common.{sym, subst, ◌∙◌}
use Rattle.book_model.specs.Sound.{IsReleasable}
use Rattle.book_compare.proofs.TermLaws.{are_books}
use Rattle.book_compare.proofs.positions.compare_by.Goals as goal

pub compare_on_by-requires-clause-books : goal.compare_on_by-requires-clause-books
compare_on_by-requires-clause-books g c κs lives =
    are_books c.book-one.result.now c.book-other.result.now c.args.day c.codes-codes.ensures.book c.codes-others.ensures.book
    (subst IsReleasable (sym c.book-one.ensures.value) c.book-one.ensures.release.releasable)
    (subst IsReleasable (sym c.book-other.ensures.value) c.book-other.ensures.release.releasable)
    (sym c.outside.ensures ∙ c.in-None.is)
