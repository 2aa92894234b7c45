use Rattle.std.proofs.Common.{ap}
use Rattle.order_desk.specs.declared.answer.Answer.TheVariants as answer
use Rattle.order_desk.specs.Effect.{shows, go_on, look, to_place}
use Rattle.order_desk.specs.Tables.{State, key_of}
use Rattle.order_desk.proofs.Requests.{shows_repeat}
use Rattle.order_desk.proofs.desk.Desk.look.Goals as goal

pub returns-in-Some : goal.returns-in-Some
unfolding look
returns-in-Some g c =
    let t = c.args.self.now.tables in
    shows_repeat t c.self.inside.orders.entries (key_of c.args.caller c.args.number) c.in-Some.kept.now c.args.order
    (go_on (to_place t c.args.order) (λ book. shows (answer.Book book.released))) c.repeat.result
    (ap (λ (s : State). s.tables.orders) c.self.view_is) c.in-Some.ensures.value c.repeat.ensures
