use Rattle.answering.proofs.BookNames.{on_course}
use Rattle.answering.proofs.calls.answer_call.Goals as goal

pub returns-clause-steps : goal.returns-clause-steps
returns-clause-steps g c =
    on_course c.args.call.caller c.args.call.what (g.T.Turns.hand c.args.turns.now) c.reply_to.result (g.T.Turns.hand c.reply_to.new.turns)
    c.reply_to.ensures
