-- How a run ends that runs a desk.
--     desk_outside o sink                    what the desk sees of the outside, where the sink stands so
--     EndsDesk how before after status       how a desk's run that ended so is told, and its status
--     RunsDesk before after status           a desk was run over the source and the sink, and its end was told
use Rattle.std.specs.Prelude.{◌≡◌, ℕ}
use Rattle.pb_base.specs.declared.answer.Fail.{Fail}
use Rattle.pb_base.specs.declared.answer.Fail.TheVariants.{Refused, Memory as NoMemory}
use Rattle.pb_outside.specs.Sink.{SinkTold}
use Rattle.order_desk.specs.declared.start.StartFault.{StartFault}
use Rattle.order_desk.specs.declared.start.StartFault.TheVariants.{Store, BadRow}
use Rattle.session.specs.Session.{told}
use Rattle.session.specs.declared.end.SessionEnd.{SessionEnd}
use Rattle.session.specs.declared.end.SessionEnd.TheVariants.{Done, Broken, ReadFault, WriteFault, Memory}
use Rattle.desk_run.specs.DeskRun.{DeskOutside, IsDeskRun}
use Rattle.desk_run.specs.DeskRun as desks
use Rattle.desk_run.specs.declared.end.DeskEnd.{DeskEnd}
use Rattle.desk_run.specs.declared.end.DeskEnd.TheVariants.{NotStarted, Served}
use Rattle.book_commands.specs.RunReply.{RunReply, memory_reply, read_fault_reply, store_fault_reply, bad_row_reply}
use Rattle.book_commands.specs.Tells.{Outputs, outputs, IsWritten, Tells, NotesSink}
use Rattle.book_commands.specs.declared.object.Object.TheVariants.{Source}
use Rattle.book_commands.specs.declared.run_status.RunStatus.{RunStatus}
use Rattle.book_commands.specs.declared.run_status.RunStatus.TheVariants as statuses
use Rattle.commands.specs.Outside.{Outside}

abbrev pub desk_outside : Outside → SinkTold → DeskOutside
desk_outside o sink = desks.outside (told o.reads.source sink) o.keeper.rows o.keeper.faults

-- nothing is told
pub record EndsSilently (due : RunStatus) (before after : Outputs) (status : RunStatus) : Type 0 where
  pub untouched : after ≡ before
  pub ends : status ≡ due

-- the sink failed in the session, so nothing more is written
pub record EndsUnwritten (first last : ℕ) (before after : Outputs) (status : RunStatus) : Type 0 where
  pub sink : after.sink ≡ before.sink
  pub notes : NotesSink first last before.log after.log status

abbrev pub EndsSession : SessionEnd → Outputs → Outputs → RunStatus → Type 0
EndsSession Done before after status = EndsSilently statuses.Done before after status
EndsSession Broken before after status = EndsSilently statuses.Faulty before after status
EndsSession (ReadFault fault) before after status = Tells (read_fault_reply Source fault.before fault.after) before after status
EndsSession (WriteFault fault) before after status = EndsUnwritten fault.before fault.after before after status
EndsSession Memory before after status = EndsSilently statuses.WantOfMemory before after status

abbrev pub start_reply : StartFault → RunReply
start_reply (Store first last) = store_fault_reply first last
start_reply (BadRow table place) = bad_row_reply table place

abbrev pub EndsStart : Fail StartFault → Outputs → Outputs → RunStatus → Type 0
EndsStart (Refused fault) before after status = Tells (start_reply fault) before after status
EndsStart NoMemory before after status = IsWritten memory_reply before after status

abbrev pub EndsDesk : DeskEnd → Outputs → Outputs → RunStatus → Type 0
EndsDesk (Served end) before after status = EndsSession end before after status
EndsDesk (NotStarted why) before after status = EndsStart why before after status

-- the desk was run, which left the sink in the middle, and its end was told from there; neither a file nor the door was touched.
-- A desk releases a book only where on every day of its term each set of codes that meets its rules selects exactly one variant
-- at every mandatory position and nowhere two. Memory and store allowing, it accepts a new order to a book in force exactly
-- where its completed codes meet every rule, and the parts list that it prints is then the book's one complete list.
pub record RunsDesk (before after : Outside) (status : RunStatus) : Type 0 where
  pub how : DeskEnd
  pub middle : SinkTold
  pub run : IsDeskRun how (desk_outside before before.writes.sink) (desk_outside after middle)
  pub told : EndsDesk how (outputs middle before.writes.log) after.writes status
  pub files : after.reads.files ≡ before.reads.files
  pub door : after.door ≡ before.door
