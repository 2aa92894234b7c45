use Rattle.std.proofs.Common.{inr}
use Rattle.answering.proofs.TableLaws.{kept_accepted}
use Rattle.answering.proofs.orders.read_order.Goals as goal

pub tell_order-requires : goal.tell_order-requires
tell_order-requires g c = kept_accepted _ c.in-Ok.kept.order c.in-Ok.kept.book c.in-Ok.ensures.valid c.in-Ok.ensures.tells

pub returns-in-Ok : goal.returns-in-Ok
returns-in-Ok g c = inr (c.in-Ok.kept, _, c.in-Ok.ensures.takes, c.tell_order.ensures _)
