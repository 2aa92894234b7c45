-- A session whose link stops taking responses.
--     LeavesOneUntold h before new    all calls that were answered but at most one have a response that the link took
use Rattle.std.specs.Prelude.{ℕ, ◌≤◌, List, ◌++◌, length}
use Rattle.pb_outside.specs.Sink.{SinkTold, Takes}
use Rattle.http_wire.specs.declared.message.Message.{Message}
use Rattle.answering.specs.Hand.{Hand}
use Rattle.session.specs.Responses.{AnswersAll}

pub record LeavesOneUntold (h : Hand) (before : SinkTold) (new : Hand) : Type 0 where
  pub told : List Message
  pub untold : List Message
  pub one : length untold ≤ 1
  pub all : List ℕ
  -- no other message was answered
  pub answered : AnswersAll (told ++ untold) h all new
  pub responses : List ℕ
  pub between : Hand
  pub are : AnswersAll told h responses between
  pub middle : SinkTold
  pub taken : Takes responses before middle
