use Rattle.order_repair.proofs.OrderLaws.{few_ordered}
use Rattle.order_repair.proofs.keeping.repair.Goals as goal

pub stay_or_blame-requires-clause-few : goal.stay_or_blame-requires-clause-few
stay_or_blame-requires-clause-few c = few_ordered c.args.book.now c.args.day c.args.chosen.now c.codes-codes.ensures.book c.requires.ordered
