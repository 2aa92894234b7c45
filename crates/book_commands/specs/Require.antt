-- What `require` is answered, and what is promised of it.
--     require_status notes      by whether a requirement fails, and then by whether one was left
--     RepliesToTexts book stated budget reply    a right report on the requirements, or the first fault: of the book's text, of that of
--                               the requirements, and then of the limits
use Rattle.std.specs.Prelude.{◌≡◌, ◌⊎◌, ℕ, false, List, [], ◌∷◌, Option, None, Some, Result, Ok, Err, IsOk, IfOk, IsSomeAnd, IsTrue, length, map, nat_le, if◌then◌else◌}
use Rattle.std.specs.List.{list_any}
use Rattle.pb_base.specs.declared.limits.TheConstants.{MOST_TEXT_BYTES}
use Rattle.book_model.specs.Contents.{Contents}
use Rattle.book_model.specs.Slices.{slices_of}
use Rattle.book_model.specs.declared.slicing.LimitFault.{LimitFault}
use Rattle.book_text.specs.BookText.{book_of}
use Rattle.book_text.specs.declared.fault.BookFault.{BookFault}
use Rattle.book_text.specs.declared.fault.BookKind.TheVariants.{TooLarge}
use Rattle.kept_requirements.specs.Notes.{IsReport, is_failing, is_undecided}
use Rattle.kept_requirements.specs.declared.note.RequirementNote.{RequirementNote}
use Rattle.pb_outside.specs.Files.{NamedBytes, FilesTold, content_of, ReadsFile, FailsToRead}
use Rattle.requirements.specs.FaultText.{requirement_fault_text}
use Rattle.kept_requirements.specs.NotesText.{requirement_text}
use Rattle.requirements.specs.Requirements.{requirements_of}
use Rattle.requirements.specs.declared.fault.RequirementFault.{RequirementFault}
use Rattle.requirements.specs.declared.fault.RequirementKind.TheVariants.{AsInBooks}
use Rattle.requirements.specs.declared.requirement.Requirement.{Requirement}
use Rattle.book_commands.specs.Ample.{IsAmpleForFile, IsAmpleToRequire}
use Rattle.book_commands.specs.Ends.{IsCheckStatus, IsDecided}
use Rattle.book_commands.specs.Promise.{Promise, ReadsFiles}
use Rattle.book_commands.specs.RunReply.{RunReply, book_fault_reply, limit_fault_reply}
use Rattle.book_commands.specs.declared.log.Note.{Note}
use Rattle.book_commands.specs.declared.log.Note.TheVariants.{Requirement as RequirementLogged, Stated}
use Rattle.book_commands.specs.declared.run_status.RunStatus.{RunStatus}
use Rattle.book_commands.specs.declared.run_status.RunStatus.TheVariants as statuses

abbrev pub require_status : List RequirementNote → RunStatus
require_status notes =
    if list_any is_failing notes then statuses.Refused else (if list_any is_undecided notes then statuses.Undecided else statuses.Done)

-- the notes on the requirements, which stand in the log
abbrev pub require_reply : Contents → ℕ → List RequirementNote → RunReply
require_reply b budget notes =
    record { text = requirement_text b budget notes; status = require_status notes; notes = map RequirementLogged notes }

abbrev pub requirement_fault_reply : RequirementFault → RunReply
requirement_fault_reply fault = record { text = requirement_fault_text fault; status = statuses.Faulty; notes = Stated fault ∷ [] }

-- a file that is longer than a text of requirements may be
abbrev pub text_too_large : RequirementFault
text_too_large = record { row = 0; kind = AsInBooks TooLarge }

-- a right report
pub record IsRequireReply (b : Contents) (rs : List Requirement) (budget : ℕ) (reply : RunReply) : Type 0 where
  pub notes : List RequirementNote
  pub is_right : IsReport b budget rs notes
  pub answer : reply ≡ require_reply b budget notes

-- the book has too many slices
pub record IsLimitReply (b : Contents) (reply : RunReply) : Type 0 where
  pub fault : LimitFault
  pub exceeds : slices_of b ≡ Err fault
  pub answer : reply ≡ limit_fault_reply fault

abbrev pub IsCheckReply : Contents → List Requirement → ℕ → RunReply → Type 0
IsCheckReply b rs budget reply = IsRequireReply b rs budget reply ⊎ IsLimitReply b reply

abbrev pub RepliesToRead : Contents → Result (List Requirement) RequirementFault → ℕ → RunReply → Type 0
RepliesToRead b (Ok rs) budget reply = IsCheckReply b rs budget reply
RepliesToRead b (Err fault) budget reply = reply ≡ requirement_fault_reply fault

-- of a text that is too long there is nothing
abbrev pub RepliesOnBook : Contents → Option (List ℕ) → ℕ → RunReply → Type 0
RepliesOnBook b None budget reply = reply ≡ requirement_fault_reply text_too_large
RepliesOnBook b (Some text) budget reply = RepliesToRead b (requirements_of b text) budget reply

abbrev pub RepliesToTexts : Result Contents BookFault → Option (List ℕ) → ℕ → RunReply → Type 0
RepliesToTexts (Ok b) stated budget reply = RepliesOnBook b stated budget reply
RepliesToTexts (Err fault) stated budget reply = reply ≡ book_fault_reply fault

-- the requirements are those of the content of the file
pub record RepliesToRequire (input : List ℕ) (file : List ℕ) (budget : ℕ) (files files' : FilesTold) (reply : RunReply) : Type 0 where
  pub content : Option (List ℕ)
  pub read : ReadsFile file MOST_TEXT_BYTES files.files content
  pub answer : RepliesToTexts (book_of input) content budget reply
  pub count : files'.faults.count ≡ files.faults.count

-- neither the book nor the requirements have a fault, and the book keeps the limits
pub record AreAskable (input text : List ℕ) : Type 0 where
  pub limit : IsTrue (nat_le (length text) MOST_TEXT_BYTES)
  pub book : IsOk (book_of input)
  pub slices : IfOk (book_of input) (λ b. IsOk (slices_of b))
  pub stated : IfOk (book_of input) (λ b. IsOk (requirements_of b text))

-- the file is told, there and has such a text
abbrev pub IsValidRequire : List ℕ → Option (List NamedBytes) → List ℕ → Type 0
IsValidRequire input files file = IsSomeAnd files (λ all. IsSomeAnd (content_of all file) (AreAskable input))

-- yes, no, or left
abbrev pub EndsRequire : RunStatus → List Note → Type 0
EndsRequire status notes = IsDecided status ⊎ (status ≡ statuses.Undecided)

abbrev pub require_promise : List ℕ → ℕ → Promise
require_promise file budget = record {
  replies = λ input. RepliesToRequire input file budget;
  fails_at_file = λ input. FailsToRead file;
  keeps_files = ReadsFiles;
  is_valid = λ input files. IsValidRequire input files file;
  is_status = IsCheckStatus;
  is_answer = EndsRequire;
  tells_release = false;
  tells_refusal = false;
  is_ample = IsAmpleForFile (IsAmpleToRequire budget) file;
}
