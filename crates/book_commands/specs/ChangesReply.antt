-- What changes on all days from one released book to another is answered.
--     changes_status runs       by whether something changes, and then by whether something was left
--     RepliesToChanges one other budget reply    right notes on all runs of days, or a limit that a book exceeds
use Rattle.std.specs.Prelude.{◌≡◌, ◌⊎◌, ℕ, List, Err, map, if◌then◌else◌}
use Rattle.std.specs.List.{list_any}
use Rattle.book_changes.specs.Changes.{IsChanges}
use Rattle.book_changes.specs.ChangesText.{changes_text, is_changed, is_undecided}
use Rattle.book_changes.specs.declared.run.RunNotes.{RunNotes}
use Rattle.book_model.specs.Contents.{Contents}
use Rattle.book_model.specs.Slices.{slices_of}
use Rattle.book_model.specs.declared.slicing.LimitFault.{LimitFault}
use Rattle.book_commands.specs.RunReply.{RunReply, limit_fault_reply}
use Rattle.book_commands.specs.declared.log.Note.TheVariants.{Change}
use Rattle.book_commands.specs.declared.run_status.RunStatus.{RunStatus}
use Rattle.book_commands.specs.declared.run_status.RunStatus.TheVariants as statuses

abbrev pub changes_status : List RunNotes → RunStatus
changes_status runs = if list_any is_changed runs then statuses.Refused else (if list_any is_undecided runs then statuses.Undecided else statuses.Done)

-- the notes on the runs, which stand in the log
abbrev pub changes_reply : Contents → Contents → ℕ → List RunNotes → RunReply
changes_reply one other budget runs = record { text = changes_text one other budget runs; status = changes_status runs; notes = map Change runs }

pub record IsChangesReply (one other : Contents) (budget : ℕ) (reply : RunReply) : Type 0 where
  pub runs : List RunNotes
  pub is_right : IsChanges one other budget runs
  pub answer : reply ≡ changes_reply one other budget runs

-- one of the books has too many slices
pub record IsLimited (one other : Contents) (reply : RunReply) : Type 0 where
  pub fault : LimitFault
  pub exceeds : (slices_of one ≡ Err fault) ⊎ (slices_of other ≡ Err fault)
  pub answer : reply ≡ limit_fault_reply fault

abbrev pub RepliesToChanges : Contents → Contents → ℕ → RunReply → Type 0
RepliesToChanges one other budget reply = IsChangesReply one other budget reply ⊎ IsLimited one other reply
