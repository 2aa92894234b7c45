use Rattle.std.proofs.Common.{◌∷◌, Some, refl, ◌∙◌, sym, ap, subst, arith}
use Rattle.atomic_table.specs.Table.{rest}
use Rattle.turn_book.specs.History.{end_of}
use Rattle.turn_book.proofs.Tickets.{passes}
use Rattle.turn_book.proofs.Turns.{swapped, holds_step, holds_after, makes_call}
use Rattle.turn_book.proofs.steps.take_turn.Goals as goal

pub exchange-requires : goal.exchange-requires
exchange-requires g c =
    let held = Some (end_of c.args.table.now.key.start.value c.args.seat.now.me.0.seen) in
    (c.requires.table.0, (held, c.requires.machine ∙ ap (λ l. (0, held) ∷ l) (sym (ap rest c.requires.machine))))

pub count-requires-clause-noted : goal.count-requires-clause-noted
count-requires-clause-noted g c = (refl, refl)

pub count-requires-clause-step : goal.count-requires-clause-step
count-requires-clause-step g c =
    let start = c.args.table.now.key.start.value in
    let before = end_of start c.args.seat.now.me.0.seen in
    let swap = swapped c.args.seat.now.me c.exchange.new.seat.me c.exchange-2.new.seat.me before c.full-machine.result c.step-reply.new.self c.exchange.result c.requires.machine c.exchange.ensures.2 c.exchange.ensures.3 c.full-machine.ensures c.exchange-2.ensures.3 in
    holds_step g.M.Machine.fits g.M.Machine.legal start _ _ _ _ c.step-reply.new.self c.args.seat.now.me _ swap.1 c.of-asked.ensures c.of-said.ensures swap.2 c.requires.call
    (subst (λ x. g.M.Machine.legal x c.args.call c.step-reply.result c.step-reply.new.self) swap.0 c.step-reply.ensures)

pub fetch_add-served-requires : goal.fetch_add-served-requires
fetch_add-served-requires g c =
    let start = c.args.table.now.key.start.value in
    let before = end_of start c.args.seat.now.me.0.seen in
    let swap = swapped c.args.seat.now.me c.exchange.new.seat.me c.exchange-2.new.seat.me before c.full-machine.result c.step-reply.new.self c.exchange.result c.requires.machine c.exchange.ensures.2 c.exchange.ensures.3 c.full-machine.ensures c.exchange-2.ensures.3 in
    let after = holds_after start _ _ _ c.exchange-2.new.seat.me _ swap.2 (c.count.ensures.counted _ swap.2) in (
      c.count.ensures.seat.0 ∙ c.exchange-2.ensures.0 ∙ c.exchange.ensures.0 ∙ c.requires.table.0,
      omega (arith, c.requires.table.1),
      passes _ _ _ _ _ _ after.0 after.1,
    )

pub returns-clause-call : goal.returns-clause-call
returns-clause-call g c =
    let start = c.args.table.now.key.start.value in
    let before = end_of start c.args.seat.now.me.0.seen in
    let swap = swapped c.args.seat.now.me c.exchange.new.seat.me c.exchange-2.new.seat.me before c.full-machine.result c.step-reply.new.self c.exchange.result c.requires.machine c.exchange.ensures.2 c.exchange.ensures.3 c.full-machine.ensures c.exchange-2.ensures.3 in
    makes_call (g.M.Machine.legal before) _ _ _ _ c.step-reply.new.self c.args.seat.now.me c.exchange-2.new.seat.me _ _ c.of-asked.ensures c.of-said.ensures
    (subst (λ x. g.M.Machine.legal x c.args.call c.step-reply.result c.step-reply.new.self) swap.0 c.step-reply.ensures)
    swap.1 swap.2 (c.count.ensures.counted _ swap.2) c.fetch_add-served.ensures.2
