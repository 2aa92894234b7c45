use Rattle.order_desk.proofs.turn.DeskMachine.step.Goals as goal

pub returns : goal.returns
returns g c = record { step = c.step.ensures.step; valid = c.step.ensures.valid; grows = c.step.ensures.grows }
