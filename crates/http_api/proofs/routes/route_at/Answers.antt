use Rattle.std.proofs.Common.{sym, subst}
use Rattle.http_api.proofs.Only.{OnlyOf, only}
use Rattle.http_api.proofs.routes.route_at.Goals as goal

pub returns-in-Draft-clause-only : goal.returns-in-Draft-clause-only
returns-in-Draft-clause-only c = only c.args.path.now c.args.kind c.draft_at.result (subst (OnlyOf c.args.path.now c.draft_at.result) (sym c.in-Draft.is) c.draft_at.ensures.only)

pub returns-in-Book-clause-only : goal.returns-in-Book-clause-only
returns-in-Book-clause-only c = only c.args.path.now c.args.kind c.book_at.result (subst (OnlyOf c.args.path.now c.book_at.result) (sym c.in-Book.is) c.book_at.ensures.only)

pub returns-in-Order-clause-only : goal.returns-in-Order-clause-only
returns-in-Order-clause-only c = only c.args.path.now c.args.kind c.order_at.result (subst (OnlyOf c.args.path.now c.order_at.result) (sym c.in-Order.is) c.order_at.ensures.only)

pub returns-in-Listed-clause-only : goal.returns-in-Listed-clause-only
returns-in-Listed-clause-only c = only c.args.path.now c.args.kind c.list_at.result (subst (OnlyOf c.args.path.now c.list_at.result) (sym c.in-Listed.is) c.list_at.ensures.only)

pub returns-in-OrdersAfter-clause-only : goal.returns-in-OrdersAfter-clause-only
returns-in-OrdersAfter-clause-only c = only c.args.path.now c.args.kind c.orders_after.result (subst (OnlyOf c.args.path.now c.orders_after.result) (sym c.in-OrdersAfter.is) c.orders_after.ensures.only)
