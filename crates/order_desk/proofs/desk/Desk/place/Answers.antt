use Rattle.std.proofs.Common.{ap}
use Rattle.order_desk.specs.declared.answer.Answer.TheVariants as answer
use Rattle.order_desk.specs.Effect.{keeps, go_on, place, to_place}
use Rattle.order_desk.specs.Tables.{State, key_of, with_order}
use Rattle.order_desk.proofs.Following.{follows_from_shows}
use Rattle.order_desk.proofs.Requests.{place_room, shows_repeat}
use Rattle.order_desk.proofs.desk.Desk.place.Goals as goal

pub keep_order-requires-clause-room : goal.keep_order-requires-clause-room
keep_order-requires-clause-room g c = place_room c.args.self.now.tables c.args.order c.in-Ok.field-0.now c.in-Ok.ensures

pub returns-in-Some : goal.returns-in-Some
unfolding place
returns-in-Some g c =
    let t = c.args.self.now.tables in
    let key = key_of c.args.caller c.args.number in
    follows_from_shows (place t c.args.caller c.args.number c.args.order) c.args.self.now c.repeat.result
    (shows_repeat t c.self.inside.orders.entries key c.in-Some.kept.now c.args.order
    (go_on (to_place t c.args.order) (λ book. keeps answer.Placed (with_order t key c.args.order))) c.repeat.result
    (ap (λ (s : State). s.tables.orders) c.self.view_is) c.in-Some.ensures.value c.repeat.ensures)
