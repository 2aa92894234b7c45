use Rattle.std.proofs.Common.{sym, ◌∙◌}
use Rattle.order_added.proofs.SettledLaws.{broken_for_good}
use Rattle.order_added.proofs.demanding.is_broken.Goals as goal

pub returns-in-Some : goal.returns-in-Some
returns-in-Some c = λ broken.
    broken_for_good c.args.book.now c.args.day c.args.supplied.now c.args.set.now c.in-Some.construct.now c.constructs.result.now c.args.rule
    c.requires.supplied c.constructs.ensures.value
    c.in-Some.ensures.lookup.3.0 c.in-Some.ensures.lookup.1 (sym c.stays_broken.ensures ∙ broken)
