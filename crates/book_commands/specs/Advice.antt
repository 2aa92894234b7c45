-- What `free`, `why` and `ask` tell, as the orders have it that the book accepts.
--     TellsOrders command b reply    the reply to one of them is that of an answer which is so of these orders
use Rattle.std.specs.Prelude.{◌≡◌, ℕ, true, List, IfOk}
use Rattle.blame.specs.declared.blamed.Told.{Told}
use Rattle.book_model.specs.Activity.{is_within}
use Rattle.book_model.specs.Contents.{Contents}
use Rattle.command_words.specs.declared.task.BookCommand.{BookCommand}
use Rattle.command_words.specs.declared.task.BookCommand.TheVariants.{Free, Why, Ask}
use Rattle.free_answers.specs.declared.answer.FreeAnswer.{FreeAnswer}
use Rattle.left_laws.specs.Laws.{OrdersAreSo, OrdersMeet}
use Rattle.order_repair.specs.Repair.{IsMended}
use Rattle.order_repair.specs.declared.answer.WhyAnswer.{WhyAnswer}
use Rattle.parts_usage.specs.Fault.{order_fault}
use Rattle.pb_base.specs.Places.{places_of}
use Rattle.pb_base.specs.Rule.{Rule}
use Rattle.rule_text.specs.Reading.{rule_of}
use Rattle.book_commands.specs.Ask.{told_reply}
use Rattle.book_commands.specs.Free.{RepliesUnless, free_reply}
use Rattle.book_commands.specs.RunReply.{RunReply}
use Rattle.book_commands.specs.Why.{why_reply}

-- what is told of each code is so of the accepted orders that name the codes of this order
pub record TellsFree (b : Contents) (day : ℕ) (names : List (List ℕ)) (reply : RunReply) : Type 0 where
  pub answer : FreeAnswer
  pub told : reply ≡ free_reply b answer
  pub orders : OrdersAreSo b day (places_of b.codes names) answer.freedom

-- with what is told to leave and to add the order is accepted
pub record TellsWhy (b : Contents) (day : ℕ) (reply : RunReply) : Type 0 where
  pub answer : WhyAnswer
  pub told : reply ≡ why_reply b answer
  pub mends : IsMended b day answer.repair

-- accepted orders come to cars that meet the rule, or don't, as is told
pub record TellsAsk (b : Contents) (day : ℕ) (rule : Rule) (reply : RunReply) : Type 0 where
  pub found : Told
  pub told : reply ≡ told_reply b found
  pub orders : OrdersMeet b day rule found

-- where the order, or the day and the rule, have no fault
abbrev pub TellsOrders : BookCommand → Contents → RunReply → Type 0
TellsOrders (Free day names budget) b reply = RepliesUnless (order_fault b day names) (TellsFree b day names) reply
TellsOrders (Why day names budget) b reply = RepliesUnless (order_fault b day names) (TellsWhy b day) reply
TellsOrders (Ask day text budget) b reply =
    is_within b.first b.last day ≡ true → IfOk (rule_of b.codes text) (λ rule. TellsAsk b day rule reply)
TellsOrders command b reply = Unit {0}
