-- What a run does.
--     DoesTask task before after status    one that does this task
--     Does words before after status       one that does what the words ask
use Rattle.std.specs.Prelude.{◌≡◌, ◌⊎◌}
use Rattle.pb_outside.specs.Faults.{IsLater}
use Rattle.command_words.specs.Parts.{Words}
use Rattle.book_commands.specs.Due.{Due}
use Rattle.book_commands.specs.Promises.{promise_of}
use Rattle.book_commands.specs.RunReply.{RunReply, usage_reply, memory_reply}
use Rattle.book_commands.specs.Sample.{RepliesToSample}
use Rattle.command_words.specs.Size.{Size}
use Rattle.book_commands.specs.Tells.{Outputs, IsWritten, Tells}
use Rattle.command_words.specs.declared.task.BookCommand.{BookCommand}
use Rattle.book_commands.specs.declared.run_status.RunStatus.{RunStatus}
use Rattle.commands.specs.DeskEnds.{RunsDesk}
use Rattle.commands.specs.Impacted.{RunsImpact}
use Rattle.commands.specs.Outside.{Outside}
use Rattle.commands.specs.Rejudged.{RunsRejudge}
use Rattle.commands.specs.Serves.{RunsService}
use Rattle.command_words.specs.Meaning.{Asks, AsksNothing}
use Rattle.command_words.specs.declared.task.Task.{Task}
use Rattle.command_words.specs.declared.task.Task.TheVariants.{Book, Desk, Serve, Rejudge, Impact, Sample}

-- a command was answered: its reply is due, and was told; neither the keeper nor the door was touched
pub record AnswersBook (command : BookCommand) (before after : Outside) (status : RunStatus) : Type 0 where
  pub reply : RunReply
  pub due : Due command before.reads after.reads reply
  pub told : Tells reply before.writes after.writes status
  pub source_later : IsLater before.reads.source.faults after.reads.source.faults
  pub files_kept : (promise_of command).keeps_files before.reads.files after.reads.files
  pub kept : after.keeper ≡ before.keeper
  pub door : after.door ≡ before.door

-- nothing was read, and neither the keeper nor the door was touched
pub record ReadsNothing (before after : Outside) : Type 0 where
  pub untouched : after.reads ≡ before.reads
  pub kept : after.keeper ≡ before.keeper
  pub door : after.door ≡ before.door

-- the words are of no form
pub record AnswersUsage (before after : Outside) (status : RunStatus) : Type 0 where
  pub told : Tells usage_reply before.writes after.writes status
  pub nothing : ReadsNothing before after

-- memory was wanting before anything was read
pub record AnswersMemory (before after : Outside) (status : RunStatus) : Type 0 where
  pub told : IsWritten memory_reply before.writes after.writes status
  pub nothing : ReadsNothing before after

-- the reply to a sample was told, or memory was wanting
pub record TellsSample (size : Size) (before after : Outputs) (status : RunStatus) : Type 0 where
  pub reply : RunReply
  pub due : RepliesToSample size reply ⊎ (reply ≡ memory_reply)
  pub told : Tells reply before after status

-- a sample was answered
pub record AnswersSample (size : Size) (before after : Outside) (status : RunStatus) : Type 0 where
  pub tells : TellsSample size before.writes after.writes status
  pub nothing : ReadsNothing before after

abbrev pub DoesTask : Task → Outside → Outside → RunStatus → Type 0
DoesTask (Book command) = AnswersBook command
DoesTask (Desk store) = RunsDesk
DoesTask (Serve service) = RunsService service
DoesTask (Rejudge r) = RunsRejudge r
DoesTask (Impact i) = RunsImpact i
DoesTask (Sample size) = AnswersSample size

-- whatever the words ask was done, and where they ask for nothing, the usage was told
pub record Does (words : Words) (before after : Outside) (status : RunStatus) : Type 0 where
  pub asked : (task : Task) → Asks words task → DoesTask task before after status
  pub nothing : AsksNothing words → AnswersUsage before after status
