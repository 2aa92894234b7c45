use Rattle.std.proofs.Common.{ap, subst}
use Rattle.order_desk.specs.Tables.{State}
use Rattle.order_desk.specs.Valid.{IsValid}
use Rattle.order_desk.proofs.OwnRows.{own_rows_right}
use Rattle.order_desk.proofs.desk.Desk.finish.Goals as goal

pub returns-clause-right : goal.returns-clause-right
returns-clause-right g c = own_rows_right c.args.self.tables (subst IsValid (ap (λ (s : State). s.tables) c.self.view_is) c.self.invariant.valid)
