use Rattle.book_commands.proofs.WhyLaws.{told_why, fault_why}
use Rattle.book_commands.proofs.why.order_reply.Goals as goal

pub returns-in-Ok : goal.returns-in-Ok
returns-in-Ok c =
    told_why c.args.book.now c.args.day c.args.codes.now c.args.budget.now c.in-Ok.answer c.answer_reply.result (rw c.clauses.ensures.value at c.in-Ok.ensures.answer) c.answer_reply.ensures

pub returns-in-Err-Refused : goal.returns-in-Err-Refused
returns-in-Err-Refused c =
    fault_why c.args.book.now c.args.day c.args.codes.now c.args.budget.now c.in-Err-Refused.fault c.order_fault_reply.result
    (rw c.in-Err-Refused.field-0-is at c.in-Err-Refused.ensures.fault) c.order_fault_reply.ensures
