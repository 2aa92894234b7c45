use Rattle.std.proofs.Common.{◌∙◌, sym, ap, arith}
use Rattle.turn_book.proofs.Tickets.{looks_as, took}
use Rattle.turn_book.proofs.steps.wait_turn.Goals as goal

pub load-serving-requires : goal.load-serving-requires
load-serving-requires g c =
    let i = c.loop.invariant in (
      i.0 ∙ c.requires.table.0,
      omega (arith, c.requires.table.1),
      looks_as _ _ _ _ c.requires.start _ _ _ (ap (λ m. m.0.stage) i.2 ∙ c.requires.ticket.0),
    )

pub loop-preserved : goal.loop-preserved
loop-preserved g c =
    let i = c.loop.invariant in
    let l = c.load-serving.ensures in
    let mine = ap (λ m. m.0.ticket) i.2 ∙ c.requires.ticket.1 in
    (l.0 ∙ i.0, l.1 ∙ i.1, l.2.1 (λ e. c.if-serving-ticket.false (e ∙ mine)) ∙ i.2)

pub returns-then-serving-ticket-clause-turn : goal.returns-then-serving-ticket-clause-turn
returns-then-serving-ticket-clause-turn g c =
    let i = c.loop.invariant in
    let mine = ap (λ m. m.0.ticket) i.2 ∙ c.requires.ticket.1 in
    took _ _ _ c.requires.start _ _ _ i.2 (c.load-serving.ensures.2.0 (c.if-serving-ticket.true ∙ sym mine))
