use Rattle.std.proofs.Common.{◌∙◌, sym, ap, subst, arith}
use Rattle.turn_book.specs.History.{end_of}
use Rattle.turn_book.proofs.Histories.{end_valid, run_longer}
use Rattle.turn_book.proofs.Tickets.{draws}
use Rattle.turn_book.proofs.Turns.{at_turn}
use Rattle.turn_book.proofs.book.TurnBook.call.Goals as goal

pub fetch_add-ticket-requires : goal.fetch_add-ticket-requires
fetch_add-ticket-requires g c =
    let left = ap (λ p. p.left) c.pass.view_is in
    let seat_left = c.pass.invariant.2 in (
      ap (λ p. p.table) c.pass.view_is ∙ c.requires.book ∙ sym (ap (λ b. b.table) c.self.view_is),
      omega (arith, c.self.invariant.0),
      draws _ _ _ _ _ _ c.pass.invariant.1 (omega (arith, c.requires.left)),
    )

pub take_turn-reply-requires-clause-valid : goal.take_turn-reply-requires-clause-valid
take_turn-reply-requires-clause-valid g c =
    let drawn = ap (λ m. m.0.seen) c.fetch_add-ticket.ensures.2 ∙ ap (λ p. p.seen) c.pass.view_is in
    let start_is = ap (λ b. b.start) c.self.view_is in
    let fits_seen = subst (λ x. g.M.Machine.fits (end_of x c.args.pass.seen) c.args.call) (sym start_is) c.requires.call in
    let now = at_turn _ _ _ g.met.M.Machine.stays_valid g.met.M.Machine.stays_fitting _ _ _ _ _ c.wait_turn.ensures.turn drawn fits_seen in
    end_valid _ _ _ g.met.M.Machine.stays_valid _ _ now.0.0 now.0.1

pub take_turn-reply-requires-clause-call : goal.take_turn-reply-requires-clause-call
take_turn-reply-requires-clause-call g c =
    let drawn = ap (λ m. m.0.seen) c.fetch_add-ticket.ensures.2 ∙ ap (λ p. p.seen) c.pass.view_is in
    let start_is = ap (λ b. b.start) c.self.view_is in
    let fits_seen = subst (λ x. g.M.Machine.fits (end_of x c.args.pass.seen) c.args.call) (sym start_is) c.requires.call in
    let now = at_turn _ _ _ g.met.M.Machine.stays_valid g.met.M.Machine.stays_fitting _ _ _ _ _ c.wait_turn.ensures.turn drawn fits_seen in
    now.1

pub returns-clause-history : goal.returns-clause-history
returns-clause-history g c =
    let drawn = ap (λ m. m.0.seen) c.fetch_add-ticket.ensures.2 ∙ ap (λ p. p.seen) c.pass.view_is in
    let start_is = ap (λ b. b.start) c.self.view_is in
    let fits_seen = subst (λ x. g.M.Machine.fits (end_of x c.args.pass.seen) c.args.call) (sym start_is) c.requires.call in
    let now = at_turn _ _ _ g.met.M.Machine.stays_valid g.met.M.Machine.stays_fitting _ _ _ _ _ c.wait_turn.ensures.turn drawn fits_seen in
    let step = c.take_turn-reply.ensures.call in
    let run = run_longer g.M.Machine.fits g.M.Machine.legal g.M.Machine.valid _ _ _ _ _ _ step.0 start_is now.0 now.1 step.1 (ap (λ m. m.0.seen) step.2) in
    run.1

pub returns-clause-machine : goal.returns-clause-machine
returns-clause-machine g c =
    let drawn = ap (λ m. m.0.seen) c.fetch_add-ticket.ensures.2 ∙ ap (λ p. p.seen) c.pass.view_is in
    let start_is = ap (λ b. b.start) c.self.view_is in
    let fits_seen = subst (λ x. g.M.Machine.fits (end_of x c.args.pass.seen) c.args.call) (sym start_is) c.requires.call in
    let now = at_turn _ _ _ g.met.M.Machine.stays_valid g.met.M.Machine.stays_fitting _ _ _ _ _ c.wait_turn.ensures.turn drawn fits_seen in
    let step = c.take_turn-reply.ensures.call in
    let run = run_longer g.M.Machine.fits g.M.Machine.legal g.M.Machine.valid _ _ _ _ _ _ step.0 start_is now.0 now.1 step.1 (ap (λ m. m.0.seen) step.2) in
    end_valid _ _ _ g.met.M.Machine.stays_valid _ _ run.0 run.1
