use Rattle.commands.proofs.Stocked.{StocksFrom}
use Rattle.commands.proofs.stock.stock_of.Given as goal

abbrev pub invariant-loop-key : goal.invariant-loop-key
invariant-loop-key g l = StocksFrom l.desk.tables.books l.key-iterator l.desk.tables.orders l.stock.items
