use Rattle.std.proofs.Common.{◌≡◌, Ok, Err}
use Rattle.pb_base.specs.NamedSet.{named}
use Rattle.parts_usage.specs.Fault.{order_fault}
use Rattle.parts_usage.proofs.OrderedLaws.{faultless_only, never_refused}
use Rattle.parts_usage.proofs.ordered.faultless_set.Goals as goal

pub unreachable-requires : goal.unreachable-requires
unreachable-requires c =
    never_refused (order_fault c.args.book.now c.args.day c.args.names.now) (named c.args.book.now.codes c.args.names.now) c.in-Err-Refused.field-0-0 c.requires
    (rw c.in-Err-Refused.field-0-is at c.in-Err-Refused.ensures)

pub returns-in-Ok : goal.returns-in-Ok
returns-in-Ok c =
    faultless_only (order_fault c.args.book.now c.args.day c.args.names.now) (named c.args.book.now.codes c.args.names.now) c.in-Ok.set c.in-Ok.ensures
