use Rattle.order_desk.proofs.OwnRows.{own_rows_right}
use Rattle.order_desk.proofs.RowsTell.{rows_tell}
use Rattle.order_desk.proofs.start.row_laws.Goals as goal

pub returns-clause-own : goal.returns-clause-own
returns-clause-own c = own_rows_right

pub returns-clause-tell : goal.returns-clause-tell
returns-clause-tell c = rows_tell
