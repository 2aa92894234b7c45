use Rattle.order_desk.proofs.Growth.{step_grows}
use Rattle.order_desk.proofs.desk.Desk.step.Goals as goal

pub returns-clause-grows : goal.returns-clause-grows
returns-clause-grows g c = step_grows c.args.self.now c.args.event c.take-answer.result c.take-answer.new.self c.take-answer.ensures
