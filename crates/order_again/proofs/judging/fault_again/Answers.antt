use Rattle.order_again.proofs.OrderedLaws.{never_ok}
use Rattle.order_again.proofs.judging.fault_again.Goals as goal

pub unreachable-requires : goal.unreachable-requires
unreachable-requires c = never_ok c.args.to.now.book c.args.day c.args.codes.now _ c.requires c.in-Ok-Accepted.ensures.outcome
