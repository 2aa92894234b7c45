use Rattle.std.proofs.Common.{refl}
use Rattle.std.specs.Option.{option_map}
use Rattle.keeper.specs.Rows.{Kept, IsInOrder}
use Rattle.keeper.proofs.InOrder.{draft_in_order, book_in_order, order_in_order, withdrawn_in_order}
use Rattle.journal_keeper.specs.Record.{Entry, Draft, Book, Order, Withdrawn, effect}
use Rattle.journal_keeper.specs.Stage.{seen_by}
use Rattle.journal_keeper.proofs.Stages.{sound_stands}
use Rattle.journal_keeper.proofs.Answered.{stays_in_order}
use Rattle.journal_keeper.proofs.keeping.JournalKeeper.record.Goals as goal

-- an entry keeps the order of the rows
in_order : (entry : Entry) (k : Kept) → IsInOrder k → IsInOrder (effect entry k)
in_order (Draft row) k ordered = draft_in_order row k _ refl ordered
in_order (Book row) k ordered = book_in_order row k _ refl ordered
in_order (Order row) k ordered = order_in_order row k _ refl ordered
in_order (Withdrawn number) k ordered = withdrawn_in_order number k _ refl ordered

pub returns-clause-in_order : goal.returns-clause-in_order
returns-clause-in_order g c =
    let entry = g.R.Recorded.entry c.args.row.now in
    rw (← c.self.view_is) (stays_in_order c.put.result
    (option_map (seen_by c.self.inside.stage) (g.D.Disk.content c.self.inside.disk))
    (option_map (seen_by c.put.new.stage) (g.D.Disk.content c.put.new.disk))
    (effect entry) (in_order entry) c.put.ensures.done c.put.ensures.unchanged)

pub returns-clause-put : goal.returns-clause-put
returns-clause-put g c = rw (← c.self.view_is) (record {
  any_moment = c.put.ensures.any_moment;
  stands = sound_stands c.put.new.stage (g.D.Disk.content c.put.new.disk) (g.D.Disk.may_leave c.put.new.disk) c.put.ensures.sound;
  doubt = c.put.ensures.doubt;
  stays_open = c.put.ensures.stays_open;
  untouched = c.put.ensures.untouched;
  refuses = c.put.ensures.refuses;
})
