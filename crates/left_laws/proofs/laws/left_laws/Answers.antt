use Rattle.left_laws.proofs.OrderedLaws.{comes_left, left_ordered, left_on_slice, orders_meet, orders_so}
use Rattle.left_laws.proofs.laws.left_laws.Goals as goal

pub returns-clause-comes : goal.returns-clause-comes
returns-clause-comes c = comes_left c.args.book.now c.named.ensures

pub returns-clause-ordered : goal.returns-clause-ordered
returns-clause-ordered c = left_ordered c.args.book.now c.named.ensures

pub returns-clause-free : goal.returns-clause-free
returns-clause-free c = orders_so c.args.book.now c.named.ensures

pub returns-clause-asked : goal.returns-clause-asked
returns-clause-asked c = orders_meet c.args.book.now c.named.ensures

pub returns-clause-on_slice : goal.returns-clause-on_slice
returns-clause-on_slice c = left_on_slice c.args.book.now
