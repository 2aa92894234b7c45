use Rattle.std.proofs.Common.{List, Bool, length, sym, subst, ◌∙◌}
use Rattle.book_model.specs.Book.{IsBook}
use Rattle.book_model.specs.Contents.{Contents}
use Rattle.chosen_parts.specs.Chosen.{AreFew}
use Rattle.release.specs.Orders.{supplemented}
use Rattle.order_again.specs.Again.{IsSameAgain}
use Rattle.order_again.proofs.OrderedLaws.{length-named, set_is, broken_is, is_refused, is_accepted_by, few_selected, again_refused, again_by}
use Rattle.order_again.proofs.judging.judge_ordered.Goals as goal

pub completed_set-requires : goal.completed_set-requires
completed_set-requires c = length-named c.args.to.now.book c.args.codes.now c.args.ordered c.requires.ordered

pub first_broken-requires : goal.first_broken-requires
first_broken-requires c = c.in_ok-set.ensures.counted

pub same_again-requires-clause-few : goal.same_again-requires-clause-few
same_again-requires-clause-few c =
    let b : Contents = c.args.to.now.book in
    let unbroken = broken_is b c.args.day c.args.codes.now c.args.ordered c.in_ok-set.set _ c.requires.ordered c.in_ok-set.ensures.set c.first_broken.ensures ∙ c.in-None.is in
    subst (AreFew b c.args.day) (sym (set_is b c.args.day c.args.codes.now c.args.ordered c.in_ok-set.set c.requires.ordered c.in_ok-set.ensures.set))
    (few_selected b c.args.day c.args.codes.now c.requires.faultless (subst IsBook c.book-book.ensures.value c.codes-codes.ensures.book) c.book-book.ensures.release.releasable unbroken)

pub returns-in-Some : goal.returns-in-Some
returns-in-Some c =
    let b : Contents = c.args.to.now.book in
    let broken = broken_is b c.args.day c.args.codes.now c.args.ordered c.in_ok-set.set _ c.requires.ordered c.in_ok-set.ensures.set c.first_broken.ensures ∙ c.in-Some.is in
    again_refused c.args.own.now.book b c.args.day c.args.codes.now c.in-Some.rule (is_refused b c.args.day c.args.codes.now c.requires.faultless c.in-Some.rule broken)

pub returns : goal.returns
returns c =
    let b : Contents = c.args.to.now.book in
    let unbroken = broken_is b c.args.day c.args.codes.now c.args.ordered c.in_ok-set.set _ c.requires.ordered c.in_ok-set.ensures.set c.first_broken.ensures ∙ c.in-None.is in
    again_by c.args.own.now.book b c.args.day c.args.codes.now (supplemented b c.args.day c.args.codes.now) c.in_ok-again-in-None.again
    (is_accepted_by b c.args.day c.args.codes.now c.requires.faultless (subst IsBook c.book-book.ensures.value c.codes-codes.ensures.book) c.book-book.ensures.release.releasable unbroken)
    (subst (λ (x : List Bool). IsSameAgain c.args.own.now.book b c.args.day (supplemented c.args.own.now.book c.args.day c.args.codes.now) x c.in_ok-again-in-None.again)
    (set_is b c.args.day c.args.codes.now c.args.ordered c.in_ok-set.set c.requires.ordered c.in_ok-set.ensures.set)
    c.in_ok-again-in-None.ensures)
