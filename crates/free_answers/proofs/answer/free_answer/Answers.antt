use Rattle.parts_usage.specs.Fault.{order_fault}
use Rattle.parts_usage.specs.Outcome.{outcome_of_set}
use Rattle.free_answers.specs.Answer.{completed_of}
use Rattle.free_answers.proofs.AnswerLaws.{ok_behind, fail_behind}
use Rattle.free_answers.proofs.answer.free_answer.Goals as goal

pub beside-requires-clause-faultless : goal.beside-requires-clause-faultless
beside-requires-clause-faultless c =
    (ok_behind (order_fault c.args.book.now c.args.day c.args.names.now) (outcome_of_set c.args.book.now c.args.day (completed_of c.args.book.now c.args.day c.args.names.now)) c.in-Ok.judged
    c.in-Ok.ensures).0

pub beside-requires-clause-judged : goal.beside-requires-clause-judged
beside-requires-clause-judged c =
    (ok_behind (order_fault c.args.book.now c.args.day c.args.names.now) (outcome_of_set c.args.book.now c.args.day (completed_of c.args.book.now c.args.day c.args.names.now)) c.in-Ok.judged
    c.in-Ok.ensures).1

pub returns-in-Err-clause-fault : goal.returns-in-Err-clause-fault
returns-in-Err-clause-fault c =
    fail_behind (order_fault c.args.book.now c.args.day c.args.names.now) (outcome_of_set c.args.book.now c.args.day (completed_of c.args.book.now c.args.day c.args.names.now)) c.in-Err.fail c.in-Err.ensures
