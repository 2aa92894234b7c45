use Rattle.std.proofs.Common.{ℕ, List, subst, sym}
use Rattle.order_repair.specs.Ordered.{AreOrdered}
use Rattle.order_repair.proofs.OrderLaws.{some_ordered}
use Rattle.order_repair.proofs.keeping.keep_these.Goals as goal

pub change_of-requires-clause-ordered : goal.change_of-requires-clause-ordered
change_of-requires-clause-ordered c =
    subst (λ (ps : List ℕ). AreOrdered c.args.book.now c.args.day ps) (sym c.deref.ensures.value)
    (some_ordered c.args.book.now c.args.day c.args.chosen.now c.args.stay.kept.items c.requires.ordered c.requires.stay.among)
