-- From what each status of a run comes.
use Rattle.std.specs.Prelude.{◌≡◌, ◌⊎◌, ℕ, List}
use Rattle.pb_base.specs.declared.answer.Fail.TheVariants.{Refused as RefusedStart}
use Rattle.pb_outside.specs.Faults.{Rose, Fails}
use Rattle.command_words.specs.Parts.{Words}
use Rattle.session.specs.declared.end.SessionEnd.TheVariants.{Done, Broken}
use Rattle.desk_run.specs.declared.end.DeskEnd.{DeskEnd}
use Rattle.desk_run.specs.declared.end.DeskEnd.TheVariants.{NotStarted, Served}
use Rattle.book_commands.specs.Ends.{IsSampleStatus}
use Rattle.book_commands.specs.Inputs.{Inputs, ReadsInput}
use Rattle.book_commands.specs.Promises.{promise_of}
use Rattle.book_commands.specs.RunReply.{RunReply}
use Rattle.book_commands.specs.Sample.{RepliesToSample}
use Rattle.command_words.specs.Size.{Size}
use Rattle.book_commands.specs.Tells.{IsTold}
use Rattle.command_words.specs.declared.task.BookCommand.{BookCommand}
use Rattle.book_commands.specs.declared.run_status.RunStatus.{RunStatus}
use Rattle.book_commands.specs.declared.run_status.RunStatus.TheVariants as statuses
use Rattle.commands.specs.DeskEnds.{RunsDesk}
use Rattle.commands.specs.Impacted.{RunsImpact, IsImpactStatus}
use Rattle.commands.specs.Outside.{Outside}
use Rattle.commands.specs.Rejudged.{RejudgeEnd, unjudged, judged, RunsRejudge}
use Rattle.command_words.specs.Impact.{Impact as ImpactWords}
use Rattle.command_words.specs.Rejudging.{Rejudging}
use Rattle.command_words.specs.Service.{Service}
use Rattle.commands.specs.Serves.{ServiceEnd, unstarted, served, RunsService}
use Rattle.serve_run.specs.declared.work_end.WorkEnd.TheVariants.{Over}
use Rattle.serve_run.specs.declared.end.ServeEnd.TheVariants.{Worked}
use Rattle.command_words.specs.Meaning.{Asks, AsksNothing}
use Rattle.command_words.specs.declared.task.Task.TheVariants.{Book, Desk, Serve, Rejudge, Impact, Sample}

-- the text, the notes and the status are those of a reply to the words and to what was read
pub record GivesReply (words : Words) (before after : Outside) (status : RunStatus) : Type 0 where
  pub command : BookCommand
  pub input : List ℕ
  pub reply : RunReply
  pub asked : Asks words (Book command)
  pub read : ReadsInput before.reads.source after.reads.source input
  pub replies : (promise_of command).replies input before.reads.files after.reads.files reply
  pub told : IsTold reply before.writes after.writes status
  pub statuses : (promise_of command).is_status status

-- they are those of a reply to the words alone
pub record GivesSample (words : Words) (before after : Outside) (status : RunStatus) : Type 0 where
  pub size : Size
  pub reply : RunReply
  pub asked : Asks words (Sample size)
  pub replies : RepliesToSample size reply
  pub told : IsTold reply before.writes after.writes status
  pub statuses : IsSampleStatus status

-- a session ended, or no desk was started: the keeper failed, or this row that is kept is not right
abbrev pub IsDeskStatus : DeskEnd → RunStatus → Type 0
IsDeskStatus (Served Done) status = status ≡ statuses.Done
IsDeskStatus (Served Broken) status = status ≡ statuses.Faulty
IsDeskStatus (NotStarted (RefusedStart fault)) status = status ≡ statuses.NotStarted
IsDeskStatus how status = ⊥

-- they are those of a desk's run that ended so
pub record GivesDesk (words : Words) (before after : Outside) (status : RunStatus) : Type 0 where
  pub store : List ℕ
  pub asked : Asks words (Desk store)
  pub runs : RunsDesk before after status
  pub statuses : IsDeskStatus runs.how status

-- each port is over, or no desk was started: the keeper failed, or this row that is kept is not right
abbrev pub IsServiceStatus : ServiceEnd → RunStatus → Type 0
IsServiceStatus (served (Worked Over)) status = status ≡ statuses.Done
IsServiceStatus (unstarted (RefusedStart fault)) status = status ≡ statuses.NotStarted
IsServiceStatus how status = ⊥

-- they are those of a service that ended so
pub record GivesService (words : Words) (before after : Outside) (status : RunStatus) : Type 0 where
  pub service : Service
  pub asked : Asks words (Serve service)
  pub runs : RunsService service before after status
  pub statuses : IsServiceStatus runs.how status

-- the orders were judged again, or there is no book of that number; or no desk was started, as above
abbrev pub IsRejudgeStatus : RejudgeEnd → RunStatus → Type 0
IsRejudgeStatus judged status = (status ≡ statuses.Done) ⊎ (status ≡ statuses.Faulty)
IsRejudgeStatus (unjudged (RefusedStart fault)) status = status ≡ statuses.NotStarted
IsRejudgeStatus how status = ⊥

-- they are those of orders that were judged again
pub record GivesRejudge (words : Words) (before after : Outside) (status : RunStatus) : Type 0 where
  pub rejudging : Rejudging
  pub asked : Asks words (Rejudge rejudging)
  pub runs : RunsRejudge rejudging before after status
  pub statuses : IsRejudgeStatus runs.how status

-- they are those of orders that were judged by the book of a file
pub record GivesImpact (words : Words) (before after : Outside) (status : RunStatus) : Type 0 where
  pub impact : ImpactWords
  pub asked : Asks words (Impact impact)
  pub runs : RunsImpact impact before after status
  pub statuses : IsImpactStatus runs.how status

-- the source or the files failed
abbrev pub FailsToReadFrom : Inputs → Inputs → Type 0
FailsToReadFrom before after = Fails before.source.faults after.source.faults ⊎ Rose before.files.faults.count after.files.faults.count

-- from what each status comes
pub data IsCaused (words : Words) (before after : Outside) (status : RunStatus) : Type 0 where
  by_words : status ≡ statuses.Usage → AsksNothing words → IsCaused words before after status
  by_inputs : status ≡ statuses.ReadFault → FailsToReadFrom before.reads after.reads → IsCaused words before after status
  by_sink : status ≡ statuses.WriteFault → Rose before.writes.sink.faults after.writes.sink.faults → IsCaused words before after status
  by_memory : status ≡ statuses.WantOfMemory → IsCaused words before after status
  by_reply : GivesReply words before after status → IsCaused words before after status
  by_sample : GivesSample words before after status → IsCaused words before after status
  by_desk : GivesDesk words before after status → IsCaused words before after status
  by_door : status ≡ statuses.DoorFault → Rose before.door.told.faults after.door.told.faults → IsCaused words before after status
  by_service : GivesService words before after status → IsCaused words before after status
  by_rejudge : GivesRejudge words before after status → IsCaused words before after status
  by_impact : GivesImpact words before after status → IsCaused words before after status

-- the statuses of a run whose words are of no form
abbrev pub IsUsageStatus : RunStatus → Type 0
IsUsageStatus status = (status ≡ statuses.Usage) ⊎ (status ≡ statuses.WriteFault) ⊎ (status ≡ statuses.WantOfMemory)
