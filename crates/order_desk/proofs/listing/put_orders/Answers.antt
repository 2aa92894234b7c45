use Rattle.std.proofs.Common.{◌-◌, ◌+◌, ◌++◌, ap, arith, ◌∙◌}
use Rattle.order_desk.specs.Listing.{last_line}
use Rattle.order_desk.specs.declared.limits.TheConstants.{MOST_LISTED}
use Rattle.order_desk.proofs.Lists.{list_of, listed_last, listed_more}
use Rattle.order_desk.proofs.listing.put_orders.Goals as goal

pub loop-preserved : goal.loop-preserved
loop-preserved c =
    listed_more (MOST_LISTED - c.loop.counter) (MOST_LISTED - (c.loop.counter + 1)) (c.in-Some.key.now, c.in-Some.order.now) c.loop.orders
    c.next.new.self c.loop.text c.put_order.new.text (c.args.text.now ++ list_of MOST_LISTED c.args.orders) (omega arith) c.in-Some.ensures.steps
    c.in_ok-put_order-in-Some.ensures c.loop.invariant

pub returns : goal.returns
returns c =
    listed_last (MOST_LISTED - c.loop.counter) c.loop.orders c.next-2.new.self c.next-2.result c.loop.text c.put-2.new.self
    (c.args.text.now ++ list_of MOST_LISTED c.args.orders) (omega arith) c.next-2.ensures.steps
    (c.in_ok-put.ensures.ok ∙ ap (λ t. c.loop.text ++ t) (c.last_line.ensures ∙ ap last_line c.is_some.ensures)) c.loop.invariant
