use Rattle.std.proofs.Common.{List, sym, subst}
use Rattle.order_again.specs.declared.kept.Stock.{Stock}
use Rattle.commands.proofs.Stocked.{StocksFrom, stocks_next, stocks_last, stock_accepted}
use Rattle.commands.proofs.stock.stock_of.Goals as goal

-- one more order is stocked
pub loop-key-preserved : goal.loop-key-preserved
loop-key-preserved g c =
    let t = c.args.desk.now.tables in
    let stocked = c.in_ok-stocked-in-Some-book_at in
    subst (λ (stock : List Stock). StocksFrom t.books c.next.new.self t.orders stock) (sym c.in_ok-push-in-Some-book_at.ensures.items)
    (stocks_next t.books c.loop-key.key-iterator c.next.new.self t.orders c.in-Some.key.now c.in-Some.order.now c.in-Some-book_at.book.now.value
    stocked.field-0 c.loop-key.stock.items c.loop-key.invariant c.in-Some.ensures.steps c.in-Some-book_at.ensures stocked.ensures)

-- no order is left
pub returns-clause-stock : goal.returns-clause-stock
returns-clause-stock g c =
    let t = c.args.desk.now.tables in
    stocks_last t.books c.loop-key.key-iterator t.orders c.loop-key.stock.items c.loop-key.invariant c.in-None.ensures.steps.0

pub returns-clause-accepted : goal.returns-clause-accepted
returns-clause-accepted g c =
    let t = c.args.desk.now.tables in
    stock_accepted t.books t.orders c.loop-key.stock.items c.orders-key-items.ensures.under
    (stocks_last t.books c.loop-key.key-iterator t.orders c.loop-key.stock.items c.loop-key.invariant c.in-None.ensures.steps.0)
