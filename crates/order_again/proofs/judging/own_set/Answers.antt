use Rattle.std.proofs.Common.{◌≡◌, Some, length, ap, sym, subst, ◌∙◌}
use Rattle.book_model.specs.Book.{IsBook}
use Rattle.book_model.specs.Contents.{Contents}
use Rattle.chosen_parts.specs.Chosen.{AreFew}
use Rattle.parts_usage.specs.Ordered.{ordered_of}
use Rattle.parts_usage.proofs.OrderedLaws.{IsOrdered, ordered_is}
use Rattle.order_again.proofs.OrderedLaws.{length-named, set_is, accepts_ordered, few_accepted}
use Rattle.order_again.proofs.judging.own_set.Goals as goal

pub completed_set-requires : goal.completed_set-requires
completed_set-requires c =
    let b : Contents = c.args.own.now.book in
    let found : ordered_of b c.args.day c.args.codes.now ≡ Some c.in-Some.ordered =
    ap (λ (d : Contents). ordered_of d c.args.day c.args.codes.now) (sym c.book-book.ensures.value) ∙ sym c.in_ok-found.ensures ∙ c.in-Some.is in
    length-named b c.args.codes.now c.in-Some.ordered (ordered_is b c.args.day c.args.codes.now c.in-Some.ordered found).is

pub unreachable-requires : goal.unreachable-requires
unreachable-requires c =
    accepts_ordered c.args.own.now.book c.args.day c.args.codes.now c.requires
    (ap (λ (d : Contents). ordered_of d c.args.day c.args.codes.now) (sym c.book-book.ensures.value) ∙ sym c.in_ok-found.ensures ∙ c.in-None.is)

pub returns-clause-few : goal.returns-clause-few
returns-clause-few c =
    let b : Contents = c.args.own.now.book in
    let found : ordered_of b c.args.day c.args.codes.now ≡ Some c.in-Some.ordered =
    ap (λ (d : Contents). ordered_of d c.args.day c.args.codes.now) (sym c.book-book.ensures.value) ∙ sym c.in_ok-found.ensures ∙ c.in-Some.is in
    let ordered : IsOrdered b c.args.day c.args.codes.now c.in-Some.ordered = ordered_is b c.args.day c.args.codes.now c.in-Some.ordered found in
    let set = set_is b c.args.day c.args.codes.now c.in-Some.ordered c.in_ok-set-in-Some.set ordered.is c.in_ok-set-in-Some.ensures.set in
    subst (AreFew b c.args.day) (sym set)
    (few_accepted b c.args.day c.args.codes.now c.requires ordered.faultless (subst IsBook c.book-book.ensures.value c.codes-codes.ensures.book) c.book-book.ensures.release.releasable)
