use Rattle.desk_guards.proofs.StepLaws.{one_call}
use Rattle.desk_guards.proofs.desk_steps.no_row_is_read_before_a_put.Goals as goal

pub returns : goal.returns
returns g c = one_call c.args.desk.now c.step.new.self c.args.event c.step.result c.step.ensures.step
