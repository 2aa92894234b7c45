use Rattle.std.proofs.Common.{◌∙◌}
use Rattle.order_repair.proofs.RepairLaws.{accepted_as, faulty_refused}
use Rattle.order_repair.proofs.changing.is_accepted.Goals as goal

pub returns-in-Ok : goal.returns-in-Ok
returns-in-Ok c = c.accepts.ensures ∙ accepted_as c.args.book.now c.args.day c.args.names.now c.in-Ok.judged c.in-Ok.ensures

pub returns-in-Err-Refused : goal.returns-in-Err-Refused
returns-in-Err-Refused c =
    faulty_refused c.args.book.now c.args.day c.args.names.now c.in-Err-Refused.field-0-0 (rw c.in-Err-Refused.field-0-is at c.in-Err-Refused.ensures)
