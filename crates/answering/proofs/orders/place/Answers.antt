use Rattle.std.proofs.Common.{Some, inr}
use Rattle.answering.proofs.TableLaws.{kept_accepted}
use Rattle.answering.proofs.orders.place.Goals as goal

pub tell_placed-requires : goal.tell_placed-requires
tell_placed-requires g c =
    kept_accepted _ c.in-Ok-Some.kept.order c.in-Ok-Some.kept.book c.in-Ok-Some.ensures.valid
    (rw c.in-Ok-Some.field-0-is at c.in-Ok-Some.ensures.tells)

pub returns-in-Ok-Some : goal.returns-in-Ok-Some
returns-in-Ok-Some g c =
    inr (Some c.in-Ok-Some.kept, _, rw c.in-Ok-Some.field-0-is at c.in-Ok-Some.ensures.takes, c.tell_placed.ensures _)
