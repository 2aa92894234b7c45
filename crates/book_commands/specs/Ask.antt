-- What `ask` is answered, and what is promised of it.
--     ask_status told      by whether a car meets the rule, and then by whether that is decided
--     RepliesToAsk book day text budget reply    a right answer, or the first fault: of the book's text, of the day, of the rule's text
use Rattle.std.specs.Prelude.{◌≡◌, ℕ, Bool, true, false, List, [], ◌∷◌, ◌++◌, Result, Ok, Err, IsOk, IfOk, codes}
use Rattle.blame.specs.Blame.{IsTold}
use Rattle.blame.specs.declared.blamed.Told.{Told}
use Rattle.blame.specs.declared.blamed.Told.TheVariants as told
use Rattle.blame.specs.AskText.{ask_text}
use Rattle.book_model.specs.Activity.{is_within}
use Rattle.book_model.specs.Contents.{Contents}
use Rattle.book_text.specs.BookText.{book_of}
use Rattle.book_text.specs.declared.fault.BookFault.{BookFault}
use Rattle.rule_text.specs.FaultText.{rule_fault_text as kind_and_place}
use Rattle.pb_base.specs.Lines.{line}
use Rattle.left_laws.specs.Laws.{OrdersMeet}
use Rattle.parts_usage.specs.declared.fault.OrderFault.TheVariants.{DayOutsideTerm}
use Rattle.pb_base.specs.Rule.{Rule}
use Rattle.rule_text.specs.Reading.{rule_of}
use Rattle.rule_text.specs.declared.fault.RuleFault.{RuleFault}
use Rattle.book_commands.specs.Ample.{IsAmpleToMeet}
use Rattle.book_commands.specs.Ends.{EndsCheck, IsCheckStatus}
use Rattle.book_commands.specs.Promise.{Promise, RepliesAlone, fails_nowhere, touches_nothing}
use Rattle.book_commands.specs.RunReply.{RunReply, book_fault_reply, order_fault_reply}
use Rattle.book_commands.specs.declared.log.Note.{Note}
use Rattle.book_commands.specs.declared.log.Note.TheVariants.{Left, Rule as RuleNote}
use Rattle.book_commands.specs.declared.run_status.RunStatus.{RunStatus}
use Rattle.book_commands.specs.declared.run_status.RunStatus.TheVariants.{Done, Refused, Undecided, Faulty}

abbrev pub ask_status : Told → RunStatus
ask_status (told.Car set) = Done
ask_status (told.NoCar m) = Refused
ask_status (told.Undecided learnt) = Undecided

abbrev pub ask_notes : Told → List Note
ask_notes (told.Car set) = []
ask_notes (told.NoCar m) = []
ask_notes (told.Undecided learnt) = Left learnt ∷ []

abbrev pub told_reply : Contents → Told → RunReply
told_reply b t = record { text = ask_text b t; status = ask_status t; notes = ask_notes t }

-- a right answer
pub record IsAskReply (b : Contents) (day : ℕ) (rule : Rule) (budget : ℕ) (reply : RunReply) : Type 0 where
  pub found : Told
  pub is_right : IsTold b day [] rule budget found
  -- and so it is with the accepted orders
  pub orders : OrdersMeet b day rule found
  pub answer : reply ≡ told_reply b found

abbrev pub rule_fault_text : RuleFault → List ℕ
rule_fault_text fault = line (codes "rule fault" ++ kind_and_place fault)

abbrev pub rule_fault_reply : RuleFault → RunReply
rule_fault_reply fault = record { text = rule_fault_text fault; status = Faulty; notes = RuleNote fault ∷ [] }

abbrev pub RepliesByRule : Contents → ℕ → ℕ → Result Rule RuleFault → RunReply → Type 0
RepliesByRule b day budget (Ok rule) reply = IsAskReply b day rule budget reply
RepliesByRule b day budget (Err fault) reply = reply ≡ rule_fault_reply fault

-- by whether the day is in the term
abbrev pub RepliesOnDay : Bool → Contents → ℕ → List ℕ → ℕ → RunReply → Type 0
RepliesOnDay true b day text budget reply = RepliesByRule b day budget (rule_of b.codes text) reply
RepliesOnDay false b day text budget reply = reply ≡ order_fault_reply DayOutsideTerm

abbrev pub RepliesToAsk : Result Contents BookFault → ℕ → List ℕ → ℕ → RunReply → Type 0
RepliesToAsk (Ok b) day text budget reply = RepliesOnDay (is_within b.first b.last day) b day text budget reply
RepliesToAsk (Err fault) day text budget reply = reply ≡ book_fault_reply fault

-- neither the book nor the day nor the rule has a fault
pub record IsValidAsk (read : Result Contents BookFault) (on : ℕ) (text : List ℕ) : Type 0 where
  pub book : IsOk read
  pub day : IfOk read (λ b. is_within b.first b.last on ≡ true)
  pub rule : IfOk read (λ b. IsOk (rule_of b.codes text))

abbrev pub ask_promise : ℕ → List ℕ → ℕ → Promise
ask_promise day text budget = record {
  replies = λ input. RepliesAlone (RepliesToAsk (book_of input) day text budget);
  fails_at_file = fails_nowhere;
  keeps_files = touches_nothing;
  is_valid = λ input files. IsValidAsk (book_of input) day text;
  is_status = IsCheckStatus;
  is_answer = EndsCheck;
  tells_release = false;
  tells_refusal = false;
  is_ample = λ input files. IsAmpleToMeet budget day text input;
}
