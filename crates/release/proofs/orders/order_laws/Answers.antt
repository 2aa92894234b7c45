use Rattle.release.proofs.OrderLaws.{accepted_as_built, built, lines_are_selected, turned_away}
use Rattle.release.proofs.orders.order_laws.Goals as goal

pub returns-clause-accepts : goal.returns-clause-accepts
returns-clause-accepts c = accepted_as_built

pub returns-clause-built : goal.returns-clause-built
returns-clause-built c = built

pub returns-clause-turned_away : goal.returns-clause-turned_away
returns-clause-turned_away c = turned_away

pub returns-clause-lines : goal.returns-clause-lines
returns-clause-lines c = lines_are_selected
