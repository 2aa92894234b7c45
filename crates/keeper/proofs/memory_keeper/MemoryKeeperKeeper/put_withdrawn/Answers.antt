use Rattle.keeper.specs.Rows.{kept_of}
use Rattle.keeper.proofs.InOrder.{withdrawn_in_order}
use Rattle.keeper.proofs.memory_keeper.MemoryKeeperKeeper.put_withdrawn.Goals as goal

pub returns-clause-in_order : goal.returns-clause-in_order
returns-clause-in_order c =
    rw (← c.self.view_is) (withdrawn_in_order c.args.number (kept_of c.self.inside.rows) c.put_row.new.rows.items c.in_ok-put_row.ensures.done)
