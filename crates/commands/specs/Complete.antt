-- Which runs have to be answered.
--     IsValidInput words before            the words ask for a task, and what it reads has no fault
--     CannotFail words before              besides, no call on what it reads from fails from here on, and the sink tells its room
--     NoCountRose before after             no count of faults rose
--     IsAnswered words before after status the task was answered, memory allowing
--     LacksRoom words before after status  the sink failed, which told less room than a text that was due has bytes
use Rattle.std.specs.Prelude.{◌≡◌, ◌⊎◌, ℕ, ◌<◌, true, List, None, ◌++◌, IsSome, IsSomeAnd, length, take}
use Rattle.pb_outside.specs.Faults.{Rose}
use Rattle.pb_outside.specs.Files.{FilesTold}
use Rattle.book_model.specs.Contents.{Contents}
use Rattle.command_words.specs.Parts.{Words}
use Rattle.keeper.specs.Rows.{begun}
use Rattle.order_desk.specs.History.{Reaches}
use Rattle.order_desk.specs.RightRows.{first_bad}
use Rattle.order_desk.specs.Tables.{State}
use Rattle.answering.specs.Hand.{Hand}
use Rattle.session.specs.Reading.{Stop}
use Rattle.session.specs.Session.{IsDue}
use Rattle.desk_run.specs.DeskRun.{IsStarted, hand_at}
use Rattle.desk_run.specs.Sure.{IsOrderly}
use Rattle.book_commands.specs.Due.{Due}
use Rattle.book_commands.specs.BookFile.{HasBook, IsValidBook, RepliesToFile}
use Rattle.book_commands.specs.Ends.{EndsSample, IsDecided}
use Rattle.book_commands.specs.Inputs.{Inputs, input_limit}
use Rattle.book_commands.specs.Promises.{promise_of}
use Rattle.book_commands.specs.RunReply.{RunReply, memory_text}
use Rattle.book_commands.specs.Sample.{RepliesToSample}
use Rattle.command_words.specs.Size.{Size}
use Rattle.command_words.specs.declared.task.BookCommand.{BookCommand}
use Rattle.book_commands.specs.declared.log.Note.{Note}
use Rattle.book_commands.specs.declared.run_status.RunStatus.{RunStatus}
use Rattle.book_commands.specs.declared.run_status.RunStatus.TheVariants as statuses
use Rattle.commands.specs.DeskEnds.{desk_outside}
use Rattle.commands.specs.Impacted.{RepliesToImpact}
use Rattle.commands.specs.Outside.{Outside}
use Rattle.commands.specs.Rejudged.{RepliesToRejudge}
use Rattle.command_words.specs.Impact.{Impact as ImpactWords}
use Rattle.command_words.specs.Rejudging.{Rejudging}
use Rattle.command_words.specs.Service.{Service}
use Rattle.commands.specs.Serves.{counts_text}
use Rattle.command_words.specs.Meaning.{Asks}
use Rattle.command_words.specs.declared.task.Task.{Task}
use Rattle.command_words.specs.declared.task.Task.TheVariants.{Book, Desk, Serve, Rejudge, Impact, Sample}

-- ---- what is handed in

-- neither the input nor a file has a fault
pub record IsValidRead (command : BookCommand) (reads : Inputs) : Type 0 where
  pub input : List ℕ
  pub given : IsSomeAnd reads.source.left (λ all. input ≡ take input_limit all)
  pub valid : (promise_of command).is_valid input reads.files.files

-- the file is a book that keeps the limits of a check, and the rows are right
pub record IsValidImpact (i : ImpactWords) (before : Outside) : Type 0 where
  pub file : IsValidBook before.reads.files.files i.file
  pub rows : IsSomeAnd before.keeper.rows (λ rows. first_bad (begun rows) ≡ None)

-- of a desk, the rows are right, and nothing in the stream is refused or cut; of a service and of a
-- judging of kept orders the rows are right; a sample reads nothing
abbrev pub IsValidTask : Task → Outside → Type 0
IsValidTask (Book command) before = IsValidRead command before.reads
IsValidTask (Desk store) before = IsOrderly (desk_outside before before.writes.sink)
IsValidTask (Serve service) before = IsSomeAnd before.keeper.rows (λ rows. first_bad (begun rows) ≡ None)
IsValidTask (Rejudge r) before = IsSomeAnd before.keeper.rows (λ rows. first_bad (begun rows) ≡ None)
IsValidTask (Impact i) before = IsValidImpact i before
IsValidTask (Sample size) before = Unit {0}

pub record IsValidInput (words : Words) (before : Outside) : Type 0 where
  pub task : Task
  pub asked : Asks words task
  pub valid : IsValidTask task before

-- what a command reads from says that no call on it fails from here on
pub record CannotFailToRead (reads : Inputs) : Type 0 where
  pub source : reads.source.faults.faultless ≡ true
  pub files : reads.files.faults.faultless ≡ true

-- and so do the source and the keeper of a desk
pub record CannotFailToServe (before : Outside) : Type 0 where
  pub source : before.reads.source.faults.faultless ≡ true
  pub keeper : before.keeper.faults.faultless ≡ true

-- and so do the keeper of a service and its door
pub record CannotFailToOpen (before : Outside) : Type 0 where
  pub keeper : before.keeper.faults.faultless ≡ true
  pub door : before.door.faultless ≡ true

-- and so do the files and the keeper of a desk
pub record CannotFailToJudge (before : Outside) : Type 0 where
  pub files : before.reads.files.faults.faultless ≡ true
  pub keeper : before.keeper.faults.faultless ≡ true

abbrev pub CannotFailAt : Task → Outside → Type 0
CannotFailAt (Book command) before = CannotFailToRead before.reads
CannotFailAt (Desk store) before = CannotFailToServe before
CannotFailAt (Serve service) before = CannotFailToOpen before
CannotFailAt (Rejudge r) before = before.keeper.faults.faultless ≡ true
CannotFailAt (Impact i) before = CannotFailToJudge before
CannotFailAt (Sample size) before = Unit {0}

pub record CannotFail (words : Words) (before : Outside) : Type 0 where
  pub input : IsValidInput words before
  pub calls : CannotFailAt input.task before
  pub room : IsSome before.writes.sink.room

-- ---- what was done

pub record NoCountRose (before after : Outside) : Type 0 where
  pub source : ¬ Rose before.reads.source.faults.count after.reads.source.faults.count
  pub files : ¬ Rose before.reads.files.faults.count after.reads.files.faults.count
  pub sink : ¬ Rose before.writes.sink.faults after.writes.sink.faults
  pub keeper : ¬ Rose before.keeper.faults.count after.keeper.faults.count
  pub door : ¬ Rose before.door.told.faults after.door.told.faults

-- the run ended so, with the notes that it put into the log
pub record EndsNoted (IsEnd : RunStatus → List Note → Type 0) (before after : Outside) (status : RunStatus) : Type 0 where
  pub notes : List Note
  pub noted : after.writes.log ≡ before.writes.log ++ notes
  pub is_end : IsEnd status notes

-- an order is accepted or refused; a check or a proof says so of the book, or leaves a question; a certificate and a desk's
-- link come to their end, and so do the ports of a service; kept orders are judged again, or there is no book of that number, or
-- the book of the file is refused or leaves a question; a sample comes to its end or leaves a question
abbrev pub EndsTask : Task → Outside → Outside → RunStatus → Type 0
EndsTask (Book command) before after status = EndsNoted (promise_of command).is_answer before after status
EndsTask (Desk store) before after status = status ≡ statuses.Done
EndsTask (Serve service) before after status = status ≡ statuses.Done
EndsTask (Rejudge r) before after status = (status ≡ statuses.Done) ⊎ (status ≡ statuses.Faulty)
EndsTask (Impact i) before after status = IsDecided status ⊎ (status ≡ statuses.Undecided)
EndsTask (Sample size) before after status = EndsNoted EndsSample before after status

pub record IsAnswered (words : Words) (before after : Outside) (status : RunStatus) : Type 0 where
  pub task : Task
  pub asked : Asks words task
  pub ends : EndsTask task before after status ⊎ (status ≡ statuses.WantOfMemory)

-- a text that is due: that of a reply to what was read, or to a sample, or all that a desk has to write to its link wherever
-- reading stops, or the counts of a desk that a service has come to, or what kept orders come to, or the line of want of memory
pub data IsDueText (words : Words) (before after : Outside) (text : List ℕ) : Type 0 where
  of_reply : (command : BookCommand) (reply : RunReply) → Asks words (Book command) → Due command before.reads after.reads reply
      → text ≡ reply.text → IsDueText words before after text
  of_sample : (size : Size) (reply : RunReply) → Asks words (Sample size) → RepliesToSample size reply
      → text ≡ reply.text → IsDueText words before after text
  of_link : (store : List ℕ) (old : State) (stop : Stop) (new : Hand) → Asks words (Desk store)
      → IsStarted (desk_outside before before.writes.sink) old → IsDue stop before.reads.source.left (hand_at old) text new
      → IsDueText words before after text
  of_service : (service : Service) (old new : State) → Asks words (Serve service) → IsStarted (desk_outside before before.writes.sink) old
      → Reaches old new → text ≡ counts_text (length new.tables.drafts) (length new.tables.books) (length new.tables.orders)
      → IsDueText words before after text
  of_rejudge : (r : Rejudging) (old : State) (reply : RunReply) → Asks words (Rejudge r) → IsStarted (desk_outside before before.writes.sink) old
      → RepliesToRejudge r old.tables reply → text ≡ reply.text → IsDueText words before after text
  of_file : (i : ImpactWords) (reply : RunReply) → Asks words (Impact i) → RepliesToFile i.file before.reads.files after.reads.files reply
      → text ≡ reply.text → IsDueText words before after text
  of_impact : (i : ImpactWords) (b : Contents) (files : FilesTold) (old : State) (reply : RunReply) → Asks words (Impact i)
      → HasBook i.file before.reads.files files b → IsStarted (desk_outside before before.writes.sink) old → RepliesToImpact b old.tables reply
      → text ≡ reply.text → IsDueText words before after text
  of_memory : text ≡ memory_text → IsDueText words before after text

pub record LacksRoom (words : Words) (before after : Outside) (status : RunStatus) : Type 0 where
  pub ends : status ≡ statuses.WriteFault
  pub text : List ℕ
  pub due : IsDueText words before after text
  pub room : IsSomeAnd before.writes.sink.room (λ bytes. bytes < length text)
