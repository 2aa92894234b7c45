use Rattle.order_added.proofs.OrderLaws.{faultless_when, ordered_faultless}
use Rattle.order_added.proofs.adding.add.Goals as goal

pub faultless_set-requires : goal.faultless_set-requires
faultless_set-requires c = (faultless_when c.args.book.now c.args.day c.args.ordered.now c.args.others.items c.requires).faultless

pub add_to-requires-clause-set : goal.add_to-requires-clause-set
add_to-requires-clause-set c =
    ordered_faultless c.args.book.now c.args.day c.args.ordered.now c.in_ok-set.set
    (faultless_when c.args.book.now c.args.day c.args.ordered.now c.args.others.items c.requires).faultless c.in_ok-set.ensures
