use Rattle.std.proofs.Common.{◌≡◌, Some, ap, sym, ◌∙◌}
use Rattle.book_model.specs.Contents.{Contents}
use Rattle.parts_usage.specs.Ordered.{ordered_of}
use Rattle.parts_usage.proofs.OrderedLaws.{ordered_is}
use Rattle.order_again.proofs.judging.judge_again.Goals as goal

pub judge_ordered-requires-clause-faultless : goal.judge_ordered-requires-clause-faultless
judge_ordered-requires-clause-faultless c =
    let found : ordered_of c.args.to.now.book c.args.day c.args.codes.now ≡ Some c.in-Some.ordered =
    ap (λ (b : Contents). ordered_of b c.args.day c.args.codes.now) (sym c.book-book.ensures.value) ∙ sym c.in_ok-found.ensures ∙ c.in-Some.is in
    (ordered_is c.args.to.now.book c.args.day c.args.codes.now c.in-Some.ordered found).faultless

pub judge_ordered-requires-clause-ordered : goal.judge_ordered-requires-clause-ordered
judge_ordered-requires-clause-ordered c =
    let found : ordered_of c.args.to.now.book c.args.day c.args.codes.now ≡ Some c.in-Some.ordered =
    ap (λ (b : Contents). ordered_of b c.args.day c.args.codes.now) (sym c.book-book.ensures.value) ∙ sym c.in_ok-found.ensures ∙ c.in-Some.is in
    (ordered_is c.args.to.now.book c.args.day c.args.codes.now c.in-Some.ordered found).is

pub fault_again-requires : goal.fault_again-requires
fault_again-requires c = ap (λ (b : Contents). ordered_of b c.args.day c.args.codes.now) (sym c.book-book.ensures.value) ∙ sym c.in_ok-found.ensures ∙ c.in-None.is
