use Rattle.std.proofs.Common.{ap}
use Rattle.caller_laws.specs.Callers.{is_settled}
use Rattle.order_desk.specs.Rows.{rows_of}
use Rattle.desk_guards.proofs.StepLaws.{some_same}
use Rattle.desk_guards.proofs.desk_steps.no_row_stays_of_a_step_without_memory.Goals as goal

pub returns : goal.returns
returns g c = λ memory.
    some_same _ _ _ (ap rows_of (c.caller_laws.ensures.unsettled c.args.desk c.step-answer.new.self c.args.event c.step-answer.result (ap is_settled memory) c.step-answer.ensures.step))
    c.finish.ensures.rows
