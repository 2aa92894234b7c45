use Rattle.std.proofs.Common.{subst}
use Rattle.order_desk.specs.declared.answer.Answer.{Answer}
use Rattle.answering.specs.Hand.{Takes}
use Rattle.answering.proofs.asked.ask.Goals as goal

pub reply_of-requires : goal.reply_of-requires
reply_of-requires g c = c.requires.says c.step-answer.result _ c.step-answer.ensures.tells

pub returns : goal.returns
returns g c =
    subst (λ (a : Answer). Takes (g.T.Turns.hand c.args.turns.now) c.args.event a (g.T.Turns.hand c.step-answer.new.self)) c.reply_of.ensures
    c.step-answer.ensures.takes
