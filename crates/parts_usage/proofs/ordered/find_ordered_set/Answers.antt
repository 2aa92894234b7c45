use Rattle.pb_base.specs.NamedSet.{named}
use Rattle.parts_usage.specs.Fault.{order_fault}
use Rattle.parts_usage.proofs.OrderedLaws.{found_some, found_none}
use Rattle.parts_usage.proofs.ordered.find_ordered_set.Goals as goal

pub returns-in-Ok : goal.returns-in-Ok
returns-in-Ok c =
    found_some (order_fault c.args.book.now c.args.day c.args.names.now) (named c.args.book.now.codes c.args.names.now) c.in-Ok.set c.in-Ok.ensures

pub returns-in-Err-Refused : goal.returns-in-Err-Refused
returns-in-Err-Refused c =
    found_none (order_fault c.args.book.now c.args.day c.args.names.now) (named c.args.book.now.codes c.args.names.now) c.in-Err-Refused.field-0-0
    (rw c.in-Err-Refused.field-0-is at c.in-Err-Refused.ensures)
