-- In which statuses a run ends whose reply was told, whatever was read.
--     EndsCheck status notes      of a check that is not at fault, with these notes in the log
--     EndsSample status notes     of a sample, which reads nothing
--     LeavesNothing reply         nothing was left, in the log or by the status
use Rattle.std.specs.Prelude.{◌≡◌, ◌≢◌, ◌⊎◌, true, false, List}
use Rattle.std.specs.List.{list_any}
use Rattle.book_commands.specs.Logged.{is_spent, was_left}
use Rattle.book_commands.specs.RunReply.{RunReply}
use Rattle.book_commands.specs.declared.log.Note.{Note}
use Rattle.book_commands.specs.declared.run_status.RunStatus.{RunStatus}
use Rattle.book_commands.specs.declared.run_status.RunStatus.TheVariants.{Done, Refused, Faulty, Undecided, BadCertificate}

-- yes or no
abbrev pub IsDecided : RunStatus → Type 0
IsDecided status = (status ≡ Done) ⊎ (status ≡ Refused)

abbrev pub IsOrderStatus : RunStatus → Type 0
IsOrderStatus status = IsDecided status ⊎ (status ≡ Faulty)

abbrev pub IsCheckStatus : RunStatus → Type 0
IsCheckStatus status = IsDecided status ⊎ (status ≡ Undecided) ⊎ (status ≡ Faulty)

abbrev pub IsVerifyStatus : RunStatus → Type 0
IsVerifyStatus status = (status ≡ Done) ⊎ (status ≡ BadCertificate) ⊎ (status ≡ Faulty)

abbrev pub IsSampleStatus : RunStatus → Type 0
IsSampleStatus status = (status ≡ Done) ⊎ (status ≡ Undecided)

-- no finding keeps the book from its release, or is of its supplementing rules, but a question that was asked for this was left,
-- of which the log has what was learnt
pub record IsLeft (status : RunStatus) (notes : List Note) : Type 0 where
  pub ends : status ≡ Undecided
  pub spent : list_any is_spent notes ≡ true

abbrev pub EndsCheck : RunStatus → List Note → Type 0
EndsCheck status notes = IsDecided status ⊎ IsLeft status notes

abbrev pub EndsSample : RunStatus → List Note → Type 0
EndsSample status notes = (status ≡ Done) ⊎ IsLeft status notes

pub record LeavesNothing (reply : RunReply) : Type 0 where
  pub none : list_any was_left reply.notes ≡ false
  pub decided : reply.status ≢ Undecided
