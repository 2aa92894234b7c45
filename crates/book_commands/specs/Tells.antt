-- How a run tells its reply, by what it writes to: its sink and its log.
use Rattle.std.specs.Prelude.{◌≡◌, ◌⊎◌, ℕ, List, [], ◌∷◌, ◌++◌}
use Rattle.pb_outside.specs.Sink.{SinkTold, Takes, Refuses}
use Rattle.book_commands.specs.RunReply.{RunReply, memory_reply}
use Rattle.book_commands.specs.declared.log.Note.{Note}
use Rattle.book_commands.specs.declared.log.Note.TheVariants.{Count}
use Rattle.book_commands.specs.declared.object.Object.TheVariants.{Sink}
use Rattle.book_commands.specs.declared.run_status.RunStatus.{RunStatus}
use Rattle.book_commands.specs.declared.run_status.RunStatus.TheVariants.{WriteFault, WantOfMemory}

pub record Outputs : Type 0 where
  pub sink : SinkTold
  pub log : List Note

abbrev pub outputs : SinkTold → List Note → Outputs
outputs sink log = record { sink = sink; log = log }

-- the text was written whole, the log has the notes, and the status is the reply's
pub record IsTold (reply : RunReply) (before after : Outputs) (status : RunStatus) : Type 0 where
  pub text : Takes reply.text before.sink after.sink
  pub notes : after.log ≡ before.log ++ reply.notes
  pub ends : status ≡ reply.status

-- the sink failed: it took a front of the text, and the log has the sink's counts behind the notes
pub record IsCut (reply : RunReply) (before after : Outputs) (status : RunStatus) : Type 0 where
  pub text : Refuses reply.text before.sink after.sink
  pub notes : after.log ≡ before.log ++ (reply.notes ++ Count Sink before.sink.faults after.sink.faults ∷ [])
  pub ends : status ≡ WriteFault

-- the sink failed, and no memory was left to note it
pub record IsCutUnnoted (reply : RunReply) (before after : Outputs) (status : RunStatus) : Type 0 where
  pub text : Refuses reply.text before.sink after.sink
  pub notes : after.log ≡ before.log ++ reply.notes
  pub ends : status ≡ WantOfMemory

abbrev pub IsWritten : RunReply → Outputs → Outputs → RunStatus → Type 0
IsWritten reply before after status = IsTold reply before after status ⊎ IsCut reply before after status ⊎ IsCutUnnoted reply before after status

-- a reply for whose notes there is no memory gives way to that of want of memory, which takes none
abbrev pub Tells : RunReply → Outputs → Outputs → RunStatus → Type 0
Tells reply before after status = IsWritten reply before after status ⊎ IsWritten memory_reply before after status

-- a fault of the sink is noted with its counts, or there is no memory for the note
abbrev pub NotesSink : ℕ → ℕ → List Note → List Note → RunStatus → Type 0
NotesSink first last log log' status =
    ((log' ≡ log ++ Count Sink first last ∷ []) × (status ≡ WriteFault)) ⊎ ((log' ≡ log) × (status ≡ WantOfMemory))
