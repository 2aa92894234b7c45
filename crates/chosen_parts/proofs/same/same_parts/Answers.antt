use Rattle.chosen_parts.proofs.SameLaws.{same_everywhere}
use Rattle.chosen_parts.proofs.same.same_parts.Goals as goal

pub returns-then-same_at_each-clause-same : goal.returns-then-same_at_each-clause-same
returns-then-same_at_each-clause-same c = λ both.
    same_everywhere c.args.first.now c.args.second.now c.args.day c.args.x.now c.args.y.now
    (c.same_at_each.ensures.same c.if-same_at_each.true) (c.none_added.ensures.none both)
