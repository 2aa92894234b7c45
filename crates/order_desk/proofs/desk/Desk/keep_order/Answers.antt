use Rattle.std.proofs.Common.{ap}
use Rattle.order_desk.specs.Tables.{State}
use Rattle.order_desk.proofs.Kept.{order_kept}
use Rattle.order_desk.proofs.desk.Desk.keep_order.Goals as goal

pub invariant_of-self : goal.invariant_of-self
invariant_of-self g c =
    let written = c.write_order-written in
    order_kept c.self.inside.drafts.entries c.self.inside.books.items c.self.inside.orders.entries c.args.self.now.tables
    (g.P.Keeper.told c.self.inside.keeper) (g.P.Keeper.told written.new.keeper) written.result
    (ap (λ (s : State). s.tables) c.self.view_is) c.self.invariant c.args.key c.args.order c.requires.placed c.requires.room c.requires.free
    written.new.orders.entries written.ensures.done written.ensures.unchanged written.ensures.told written.ensures.untold
