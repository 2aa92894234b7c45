-- The desk as a machine that many call in turn.
--     IsTurn old event answer new    a step; it leaves valid tables, and what was there stays
use Rattle.order_desk.specs.declared.answer.Answer.{Answer}
use Rattle.order_desk.specs.declared.event.Event.{Event}
use Rattle.order_desk.specs.History.{Grows}
use Rattle.order_desk.specs.Step.{Step}
use Rattle.order_desk.specs.Tables.{State}
use Rattle.order_desk.specs.Valid.{IsValid}

pub record IsTurn (old : State) (event : Event) (answer : Answer) (new : State) : Type 0 where
  pub step : Step old event answer new
  pub valid : IsValid new.tables
  pub grows : Grows old.tables new.tables
