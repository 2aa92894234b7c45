use Rattle.std.proofs.Common.{◌∙◌, cond, Some, None, ap}
use Rattle.order_added.proofs.OrderLaws.{with_both, with_neither}
use Rattle.order_added.proofs.judge.put_both.Goals as goal

pub returns-then-not-put_all-clause-put : goal.returns-then-not-put_all-clause-put
returns-then-not-put_all-clause-put c =
    with_neither c.args.set.now c.args.these.now c.args.those.now (c.put_all.ensures.put ∙ ap (λ t. cond t (Some c.put_all.new.set) None) c.if-not-put_all.true)

pub returns-clause-put : goal.returns-clause-put
returns-clause-put c =
    with_both c.args.set.now c.put_all.new.set c.args.these.now c.args.those.now
    (c.put_all.ensures.put ∙ ap (λ t. cond t (Some c.put_all.new.set) None) c.if-not-put_all.false)
    ∙ c.put_all-2.ensures.put
