use Rattle.std.specs.Prelude.{Ok, Err}
use Rattle.requirements.specs.Requirements.{requirements_of}
use Rattle.book_commands.proofs.RequireLaws.{by_stated}
use Rattle.book_commands.proofs.require.stated_reply.Goals as goal

pub returns-in-Ok : goal.returns-in-Ok
returns-in-Ok g c =
    by_stated c.args.book.now c.args.budget.now (requirements_of c.args.book.now c.args.text.now) (Ok c.in-Ok.requirements.items) c.checked_reply.result c.in-Ok.ensures.requirements
    (rw c.deref.ensures.value at c.checked_reply.ensures)

pub returns-in-Err-Refused : goal.returns-in-Err-Refused
returns-in-Err-Refused g c =
    by_stated c.args.book.now c.args.budget.now (requirements_of c.args.book.now c.args.text.now) (Err c.in-Err-Refused.fault) c.fault_reply.result
    (rw c.in-Err-Refused.field-0-is at c.in-Err-Refused.ensures.requirements) c.fault_reply.ensures
