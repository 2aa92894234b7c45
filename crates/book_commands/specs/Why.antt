-- What `why` is answered, and what is promised of it.
--     why_status outcome         whether the order is accepted
--     why_notes answer           what refuses it, and what was learnt in the search that was left
--     RepliesToWhy book day names budget reply    a right answer, or the fault of the text or of the order
use Rattle.std.specs.Prelude.{◌≡◌, ℕ, false, List, [], ◌∷◌, ◌++◌, Result, Ok, Err}
use Rattle.book_model.specs.Contents.{Contents}
use Rattle.book_text.specs.BookText.{book_of}
use Rattle.book_text.specs.declared.fault.BookFault.{BookFault}
use Rattle.order_repair.specs.Repair.{IsAnswer}
use Rattle.order_repair.specs.RepairText.{why_text}
use Rattle.order_repair.specs.declared.answer.Repair.{Repair}
use Rattle.order_repair.specs.declared.answer.Repair.TheVariants.{NotNeeded, Undecided, NoOrder, Keep}
use Rattle.order_repair.specs.declared.answer.WhyAnswer.{WhyAnswer}
use Rattle.parts_usage.specs.Fault.{order_fault}
use Rattle.book_commands.specs.Ample.{IsAmpleForSome}
use Rattle.book_commands.specs.Ends.{IsDecided, IsOrderStatus}
use Rattle.book_commands.specs.Free.{RepliesUnless}
use Rattle.book_commands.specs.Order.{IsValidOrder}
use Rattle.book_commands.specs.Promise.{Promise, RepliesAlone, fails_nowhere, touches_nothing}
use Rattle.book_commands.specs.RunReply.{RunReply, book_fault_reply, outcome_notes, outcome_status}
use Rattle.book_commands.specs.declared.log.Note.{Note}
use Rattle.book_commands.specs.declared.log.Note.TheVariants.{Left}

abbrev pub repair_notes : Repair → List Note
repair_notes NotNeeded = []
repair_notes (Undecided learnt) = Left learnt ∷ []
repair_notes (NoOrder m) = []
repair_notes (Keep k) = []

abbrev pub why_reply : Contents → WhyAnswer → RunReply
why_reply b a = record { text = why_text b a; status = outcome_status a.outcome; notes = outcome_notes a.outcome ++ repair_notes a.repair }

-- a right answer
pub record IsWhyReply (b : Contents) (day : ℕ) (names : List (List ℕ)) (budget : ℕ) (reply : RunReply) : Type 0 where
  pub answer : WhyAnswer
  pub is_right : IsAnswer b day names budget answer
  pub told : reply ≡ why_reply b answer

abbrev pub RepliesWhy : Contents → ℕ → List (List ℕ) → ℕ → RunReply → Type 0
RepliesWhy b day names budget reply = RepliesUnless (order_fault b day names) (IsWhyReply b day names budget) reply

abbrev pub RepliesToWhy : Result Contents BookFault → ℕ → List (List ℕ) → ℕ → RunReply → Type 0
RepliesToWhy (Ok b) day names budget reply = RepliesWhy b day names budget reply
RepliesToWhy (Err fault) day names budget reply = reply ≡ book_fault_reply fault

abbrev pub why_promise : ℕ → List (List ℕ) → ℕ → Promise
why_promise day names budget = record {
  replies = λ input. RepliesAlone (RepliesToWhy (book_of input) day names budget);
  fails_at_file = fails_nowhere;
  keeps_files = touches_nothing;
  is_valid = λ input files. IsValidOrder input day names;
  is_status = IsOrderStatus;
  is_answer = λ status notes. IsDecided status;
  tells_release = false;
  tells_refusal = false;
  is_ample = λ input files. IsAmpleForSome budget day input;
}
