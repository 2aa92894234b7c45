use Rattle.std.proofs.Common.{length}
use Rattle.order_desk.specs.Rows.{book_rows}
use Rattle.order_desk.proofs.OrderRows.{AreRead}
use Rattle.order_desk.proofs.order_rows.judged_orders.Given as goal

abbrev pub invariant-loop-row : goal.invariant-loop-row
invariant-loop-row l = AreRead (book_rows 1 l.books) l.fn.rows.items l.orders.entries l.rest.items

abbrev pub decreases-loop-row : goal.decreases-loop-row
decreases-loop-row l = length l.rest.items
