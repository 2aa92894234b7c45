use Rattle.book_commands.proofs.CompareLaws.{by_runs, by_limit}
use Rattle.book_commands.proofs.changing.changed_reply.Goals as goal

pub returns-in-Ok : goal.returns-in-Ok
returns-in-Ok g c =
    by_runs c.args.first.now.book c.args.second.now.book c.args.budget.now c.in-Ok.runs.items c.runs_reply.result (rw c.clauses.ensures.value at c.in-Ok.ensures.notes) c.runs_reply.ensures

pub returns-in-Err-Refused : goal.returns-in-Err-Refused
returns-in-Err-Refused g c =
    by_limit c.args.first.now.book c.args.second.now.book c.args.budget.now _ c.limit_fault_reply.result (rw c.in-Err-Refused.field-0-is at c.in-Err-Refused.ensures.limits) c.limit_fault_reply.ensures
