use Rattle.session.specs.Steps.{text_of}
use Rattle.session.proofs.Asked.{answers_call, answers_denied}
use Rattle.session.proofs.Ranges.{is_call}
use Rattle.session.proofs.answer.answer.Goals as goal

pub answer_asked-requires : goal.answer_asked-requires
answer_asked-requires g c =
    is_call c.args.message.now c.in-Ok.call (record { routed = c.in-Ok.ensures.routed; lost = c.in-Ok.ensures.lost }) c.requires

pub returns-in-Ok : goal.returns-in-Ok
returns-in-Ok g c =
    answers_call c.args.message.now c.in-Ok.call (g.T.Turns.hand c.args.turns.now) (text_of c.args.message.now.head c.answer_asked.result)
    (g.T.Turns.hand c.answer_asked.new.turns) (record { routed = c.in-Ok.ensures.routed; lost = c.in-Ok.ensures.lost }) c.answer_asked.ensures

pub returns-in-Err-Refused : goal.returns-in-Err-Refused
returns-in-Err-Refused g c =
    answers_denied c.args.message.now c.in-Err-Refused.denied (g.T.Turns.hand c.args.turns.now) c.deny.result
    (record { routed = rw c.in-Err-Refused.field-0-is at c.in-Err-Refused.ensures.routed; lost = rw c.in-Err-Refused.field-0-is at c.in-Err-Refused.ensures.lost })
    c.deny.ensures
