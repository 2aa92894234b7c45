-- What `free` is answered, and what is promised of it.
--     free_status freedom        by whether a car is left, and then by what is undecided
--     freedom_notes freedom      what was learnt in the searches that were left, in the order of the lines
--     RepliesToFree book day names budget reply    a right answer, or the fault of the text or of the order
use Rattle.std.specs.Prelude.{◌≡◌, ℕ, Bool, true, false, List, [], ◌∷◌, Option, None, Some, Result, Ok, Err, if◌then◌else◌}
use Rattle.std.specs.List.{flat_map, list_any}
use Rattle.book_model.specs.Contents.{Contents}
use Rattle.book_text.specs.BookText.{book_of}
use Rattle.book_text.specs.declared.fault.BookFault.{BookFault}
use Rattle.free_answers.specs.Answer.{IsAnswer}
use Rattle.free_answers.specs.FreeText.{free_text}
use Rattle.free_answers.specs.declared.answer.FreeAnswer.{FreeAnswer}
use Rattle.left_cars.specs.declared.states.CodeState.{CodeState}
use Rattle.left_cars.specs.declared.states.CodeState.TheVariants as state
use Rattle.left_cars.specs.declared.states.Freedom.{Freedom}
use Rattle.left_cars.specs.declared.states.Freedom.TheVariants.{NoneLeft, NotDecided, Codes}
use Rattle.parts_usage.specs.Fault.{order_fault}
use Rattle.parts_usage.specs.declared.fault.OrderFault.{OrderFault}
use Rattle.book_commands.specs.Ample.{IsAmpleBeside}
use Rattle.book_commands.specs.Ends.{EndsCheck, IsCheckStatus}
use Rattle.book_commands.specs.Order.{IsValidOrder}
use Rattle.book_commands.specs.Promise.{Promise, RepliesAlone, fails_nowhere, touches_nothing}
use Rattle.book_commands.specs.RunReply.{RunReply, book_fault_reply, order_fault_reply}
use Rattle.book_commands.specs.declared.log.Note.{Note}
use Rattle.book_commands.specs.declared.log.Note.TheVariants.{Left}
use Rattle.book_commands.specs.declared.run_status.RunStatus.{RunStatus}
use Rattle.book_commands.specs.declared.run_status.RunStatus.TheVariants.{Done, Refused, Undecided}

abbrev pub is_left_open : CodeState → Bool
is_left_open state.Ordered = false
is_left_open state.Forced = false
is_left_open state.Excluded = false
is_left_open state.Open = false
is_left_open (state.Undecided learnt) = true

abbrev pub states_status : List CodeState → RunStatus
states_status states = if list_any is_left_open states then Undecided else Done

abbrev pub free_status : Freedom → RunStatus
free_status NoneLeft = Refused
free_status (NotDecided learnt) = Undecided
free_status (Codes states) = states_status states.items

abbrev pub state_notes : CodeState → List Note
state_notes state.Ordered = []
state_notes state.Forced = []
state_notes state.Excluded = []
state_notes state.Open = []
state_notes (state.Undecided learnt) = Left learnt ∷ []

abbrev pub freedom_notes : Freedom → List Note
freedom_notes NoneLeft = []
freedom_notes (NotDecided learnt) = Left learnt ∷ []
freedom_notes (Codes states) = flat_map state_notes states.items

abbrev pub free_reply : Contents → FreeAnswer → RunReply
free_reply b answer = record { text = free_text b answer; status = free_status answer.freedom; notes = freedom_notes answer.freedom }

-- a right answer
pub record IsFreeReply (b : Contents) (day : ℕ) (names : List (List ℕ)) (budget : ℕ) (reply : RunReply) : Type 0 where
  pub answer : FreeAnswer
  pub is_right : IsAnswer b day names budget answer
  pub told : reply ≡ free_reply b answer

-- the answer where the order has no fault, or that fault
abbrev pub RepliesUnless : Option OrderFault → (RunReply → Type 0) → RunReply → Type 0
RepliesUnless None Replies reply = Replies reply
RepliesUnless (Some fault) Replies reply = reply ≡ order_fault_reply fault

abbrev pub RepliesBeside : Contents → ℕ → List (List ℕ) → ℕ → RunReply → Type 0
RepliesBeside b day names budget reply = RepliesUnless (order_fault b day names) (IsFreeReply b day names budget) reply

abbrev pub RepliesToFree : Result Contents BookFault → ℕ → List (List ℕ) → ℕ → RunReply → Type 0
RepliesToFree (Ok b) day names budget reply = RepliesBeside b day names budget reply
RepliesToFree (Err fault) day names budget reply = reply ≡ book_fault_reply fault

abbrev pub free_promise : ℕ → List (List ℕ) → ℕ → Promise
free_promise day names budget = record {
  replies = λ input. RepliesAlone (RepliesToFree (book_of input) day names budget);
  fails_at_file = fails_nowhere;
  keeps_files = touches_nothing;
  is_valid = λ input files. IsValidOrder input day names;
  is_status = IsCheckStatus;
  is_answer = EndsCheck;
  tells_release = false;
  tells_refusal = false;
  is_ample = λ input files. IsAmpleBeside budget day names input;
}
