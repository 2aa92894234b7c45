-- What `days` is answered, and what is promised of it.
--     RepliesOnDays b names reply       the runs of days, or why there are none
--     RepliesToDays book names reply    the same, or the fault of the text
use Rattle.std.specs.Prelude.{◌≡◌, ◌⊎◌, ℕ, false, List, [], Option, None, Some, Result, Ok, Err, IsOk, IfOk}
use Rattle.book_model.specs.Contents.{Contents}
use Rattle.book_text.specs.BookText.{book_of}
use Rattle.book_text.specs.declared.fault.BookFault.{BookFault}
use Rattle.order_days.specs.Days.{AreRuns, days_fault}
use Rattle.order_days.specs.DaysText.{days_text}
use Rattle.order_days.specs.declared.days.DaysFault.{DaysFault}
use Rattle.order_days.specs.declared.days.DaysFault.TheVariants.{Order, Limit}
use Rattle.order_days.specs.declared.run.Run.{Run}
use Rattle.book_commands.specs.Promise.{Promise, RepliesAlone, fails_nowhere, touches_nothing, never_ample}
use Rattle.book_commands.specs.RunReply.{RunReply, book_fault_reply, limit_fault_reply, order_fault_reply}
use Rattle.book_commands.specs.declared.run_status.RunStatus.{RunStatus}
use Rattle.book_commands.specs.declared.run_status.RunStatus.TheVariants.{Done, Faulty}

abbrev pub days_reply : Contents → List Run → RunReply
days_reply b runs = record { text = days_text b runs; status = Done; notes = [] }

abbrev pub days_fault_reply : DaysFault → RunReply
days_fault_reply (Order fault) = order_fault_reply fault
days_fault_reply (Limit fault) = limit_fault_reply fault

-- the runs of days on which the order comes to the same
pub record IsDaysReply (b : Contents) (names : List (List ℕ)) (reply : RunReply) : Type 0 where
  pub runs : List Run
  pub are_right : AreRuns b names runs
  pub told : reply ≡ days_reply b runs

abbrev pub RepliesByFault : Contents → List (List ℕ) → Option DaysFault → RunReply → Type 0
RepliesByFault b names None reply = IsDaysReply b names reply
RepliesByFault b names (Some fault) reply = reply ≡ days_fault_reply fault

abbrev pub RepliesOnDays : Contents → List (List ℕ) → RunReply → Type 0
RepliesOnDays b names reply = RepliesByFault b names (days_fault b names) reply

abbrev pub RepliesToDays : Result Contents BookFault → List (List ℕ) → RunReply → Type 0
RepliesToDays (Ok b) names reply = RepliesOnDays b names reply
RepliesToDays (Err fault) names reply = reply ≡ book_fault_reply fault

-- neither the book nor the order has a fault, and the term has few slices
pub record IsValidDays (input : List ℕ) (names : List (List ℕ)) : Type 0 where
  pub book : IsOk (book_of input)
  pub order : IfOk (book_of input) (λ b. days_fault b names ≡ None)

abbrev pub IsDaysStatus : RunStatus → Type 0
IsDaysStatus status = (status ≡ Done) ⊎ (status ≡ Faulty)

abbrev pub days_promise : List (List ℕ) → Promise
days_promise names = record {
  replies = λ input. RepliesAlone (RepliesToDays (book_of input) names);
  fails_at_file = fails_nowhere;
  keeps_files = touches_nothing;
  is_valid = λ input files. IsValidDays input names;
  is_status = IsDaysStatus;
  is_answer = λ status notes. status ≡ Done;
  tells_release = false;
  tells_refusal = false;
  is_ample = never_ample;
}
