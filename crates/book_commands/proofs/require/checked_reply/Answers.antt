use Rattle.book_commands.proofs.RequireLaws.{report_told, limit_told}
use Rattle.book_commands.proofs.require.checked_reply.Goals as goal

pub returns-in-Ok : goal.returns-in-Ok
returns-in-Ok g c =
    report_told c.args.book.now c.args.requirements.now c.args.budget.now c.in-Ok.notes.items c.notes_reply.result (rw c.clauses.ensures.value at c.in-Ok.ensures.report) c.notes_reply.ensures

pub returns-in-Err-Refused : goal.returns-in-Err-Refused
returns-in-Err-Refused g c =
    limit_told c.args.book.now c.args.requirements.now c.args.budget.now _ c.limit_fault_reply.result (rw c.in-Err-Refused.field-0-is at c.in-Err-Refused.ensures.limits) c.limit_fault_reply.ensures
