use Rattle.order_desk.proofs.CheckedRows.{each_checked}
use Rattle.order_desk.proofs.checking.check_by.Goals as goal

pub returns : goal.returns
returns g c = each_checked c.args.places.now c.check_each.new.places c.check_each.ensures.same c.check_each.ensures.each
