use Rattle.keeper.specs.Rows.{kept_of}
use Rattle.keeper.proofs.InOrder.{book_in_order}
use Rattle.keeper.proofs.memory_keeper.MemoryKeeperKeeper.put_book.Goals as goal

pub returns-clause-in_order : goal.returns-clause-in_order
returns-clause-in_order c =
    rw (← c.self.view_is) (book_in_order c.args.row.now (kept_of c.self.inside.rows) c.put_row.new.rows.items c.in_ok-put_row.ensures.done)
