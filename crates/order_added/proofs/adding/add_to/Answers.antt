use Rattle.std.proofs.Common.{◌≡◌, ◌∙◌, true, sym, subst}
use Rattle.std.proofs.lemmas.Bool.{false≢true}
use Rattle.order_added.specs.Accepted.{is_accepted}
use Rattle.order_added.specs.Added.{Among}
use Rattle.order_added.proofs.OrderLaws.{accepted_alone, added_none}
use Rattle.order_added.proofs.PassLaws.{among_none}
use Rattle.order_added.proofs.adding.add_to.Goals as goal

pub returns-then-accepted-clause-added : goal.returns-then-accepted-clause-added
returns-then-accepted-clause-added c =
    let accepted : is_accepted c.args.book.now c.args.day c.args.ordered.now ≡ true =
    sym (accepted_alone c.args.book.now c.args.day c.args.ordered.now c.args.set c.in_ok-judge.judge c.requires.set c.in_ok-judge.ensures)
    ∙ sym c.in_ok-accepted.ensures ∙ c.if-accepted.true in
    added_none c.args.book.now c.args.day c.args.ordered.now c.new-then-accepted.result.items c.new-then-accepted.ensures.items accepted

pub returns-then-accepted-clause-among : goal.returns-then-accepted-clause-among
returns-then-accepted-clause-among c = subst (Among c.args.others.now) (sym c.new-then-accepted.ensures.items) (among_none c.args.others.now)

pub returns-clause-none : goal.returns-clause-none
returns-clause-none c = λ accepted.
    absurd (false≢true
    (sym c.if-accepted.false ∙ c.in_ok-accepted.ensures
    ∙ accepted_alone c.args.book.now c.args.day c.args.ordered.now c.args.set c.in_ok-judge.judge c.requires.set c.in_ok-judge.ensures ∙ accepted))
