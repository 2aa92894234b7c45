use Rattle.std.proofs.Common.{◌≡◌, ◌-◌, ◌++◌}
use Rattle.order_desk.specs.declared.limits.TheConstants.{MOST_LISTED}
use Rattle.order_desk.proofs.Lists.{list_of}
use Rattle.order_desk.proofs.listing.put_orders.Given as goal

-- the text so far and the list of the orders that are left make the whole
abbrev pub invariant-loop : goal.invariant-loop
invariant-loop l = l.text ++ list_of (MOST_LISTED - l.counter) l.orders ≡ l.initial.text ++ list_of MOST_LISTED l.initial.orders
