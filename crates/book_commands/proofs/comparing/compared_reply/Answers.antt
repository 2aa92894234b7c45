use Rattle.book_commands.proofs.CompareLaws.{by_notes, by_outside}
use Rattle.book_commands.proofs.comparing.compared_reply.Goals as goal

pub returns-in-Ok : goal.returns-in-Ok
returns-in-Ok g c =
    by_notes c.args.first.now.book c.args.second.now.book c.args.day c.args.budget.now c.in-Ok.notes.items c.notes_reply.result c.in-Ok.ensures.inside
    (rw c.clauses.ensures.value at c.in-Ok.ensures.notes) c.notes_reply.ensures

pub returns-in-Err-Refused : goal.returns-in-Err-Refused
returns-in-Err-Refused g c =
    by_outside c.args.first.now.book c.args.second.now.book c.args.day c.args.budget.now _ c.outside_reply.result (rw c.in-Err-Refused.field-0-is at c.in-Err-Refused.ensures.outside) c.outside_reply.ensures
