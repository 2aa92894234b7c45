use Rattle.std.proofs.Common.{sym, subst}
use Rattle.order_desk.specs.Effect.{Effect}
use Rattle.order_desk.specs.Step.{Follows}
use Rattle.order_desk.proofs.Growth.{book_there}
use Rattle.order_desk.proofs.Requests.{book_in_force, withdraws}
use Rattle.order_desk.proofs.desk.Desk.withdraw.Goals as goal

pub keep_withdrawn-requires : goal.keep_withdrawn-requires
keep_withdrawn-requires g c = book_in_force c.args.self.now.tables c.args.number c.in-Ok.book.now c.in-Ok.ensures c.if-book.false

pub returns-else-book : goal.returns-else-book
returns-else-book g c =
    let t = c.args.self.now.tables in
    subst (λ (u : Effect). Follows u c.args.self.now c.keep_withdrawn.result c.keep_withdrawn.new.self)
    (sym (withdraws t c.args.caller c.args.number c.in-Ok.book.now c.in-Ok-owned.field-0.now c.in-Ok.ensures c.in-Ok-owned.ensures c.if-book.false))
    (c.keep_withdrawn.ensures c.in-Ok.book.now (book_there t c.args.number c.in-Ok.book.now c.in-Ok.ensures))
