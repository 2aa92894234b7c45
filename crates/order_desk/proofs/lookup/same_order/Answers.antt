use Rattle.std.specs.Bool.{one_answer}
use Rattle.order_desk.specs.Effect.{same_order}
use Rattle.order_desk.proofs.SameOrder.{same_order_decides}
use Rattle.order_desk.proofs.lookup.same_order.Goals as goal

pub returns : goal.returns
returns c =
    one_answer c.equal_orders.result (same_order c.args.a.now c.args.b.now) c.equal_orders.ensures
    (same_order_decides c.args.a.now c.args.b.now)
