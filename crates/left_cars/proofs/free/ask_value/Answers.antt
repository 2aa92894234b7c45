use Rattle.std.proofs.Common.{length}
use Rattle.item_search.proofs.SearchLaws.{value_below}
use Rattle.solver.proofs.OneLaws.{one_consistent}
use Rattle.left_cars.proofs.free.ask_value.Goals as goal

pub ask-requires-clause-below : goal.ask-requires-clause-below
ask-requires-clause-below c = rw c.new-lit.ensures (value_below (length c.args.book.now.codes) c.args.place c.args.value c.requires.place)

pub ask-requires-clause-consistent : goal.ask-requires-clause-consistent
ask-requires-clause-consistent c = one_consistent c.new-lit.result

pub returns-clause-outcome : goal.returns-clause-outcome
returns-clause-outcome c = rw c.new-lit.ensures at c.ask.ensures.outcome
