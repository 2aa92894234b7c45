use Rattle.book_commands.proofs.DaysLaws.{told_runs, told_fault}
use Rattle.book_commands.proofs.days.reply_on_days.Goals as goal

pub returns-in-Ok : goal.returns-in-Ok
returns-in-Ok c =
    told_runs c.args.book.now c.args.codes.now c.in-Ok.runs.items c.runs_reply.result c.in-Ok.ensures.runs (rw c.deref.ensures.value at c.runs_reply.ensures)

pub returns-in-Err-Refused : goal.returns-in-Err-Refused
returns-in-Err-Refused c =
    told_fault c.args.book.now c.args.codes.now c.in-Err-Refused.fault c.days_fault_reply.result (rw c.in-Err-Refused.field-0-is at c.in-Err-Refused.ensures.fault) c.days_fault_reply.ensures
