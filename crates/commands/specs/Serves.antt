-- How a run ends that serves the links of a door.
--     NotesLinks faults log log'              the counts of the links that failed are in the log
--     end_reply how drafts books orders first last
--                                             what is told of a service that ended so, with what the desk keeps then and with the
--                                             door's counts of faults
--     RunsService service before after status a service that was run, and told
use Rattle.std.specs.Prelude.{◌≡◌, ◌⊎◌, true, ℕ, ◌/◌, List, [], ◌∷◌, ◌++◌, IfSome, codes, length}
use Rattle.pb_base.specs.declared.answer.Fail.{Fail}
use Rattle.pb_outside.specs.declared.error.OutError.TheVariants as out
use Rattle.pb_base.specs.Lines.{line, number_behind}
use Rattle.order_desk.specs.Rows.{rows_of}
use Rattle.order_desk.specs.Tables.{State, Tables}
use Rattle.order_desk.specs.Valid.{IsValid}
use Rattle.order_desk.specs.declared.start.StartFault.{StartFault}
use Rattle.session.specs.declared.end.SessionEnd.{SessionEnd}
use Rattle.session.specs.declared.end.SessionEnd.TheVariants.{Done, Broken, ReadFault, WriteFault, Memory}
use Rattle.serve_run.specs.declared.work_end.WorkEnd.TheVariants.{Over, Fault, Memory as NoMemory}
use Rattle.serve_run.specs.ServeRun.{IsOverOrMemory, IsServeRun}
use Rattle.serve_run.specs.declared.end.ServeEnd.{ServeEnd}
use Rattle.serve_run.specs.declared.end.ServeEnd.TheVariants.{Closed, NoWorkers, Worked}
use Rattle.desk_run.specs.DeskRun.{IsStarted, IsNotStarted}
use Rattle.desk_run.specs.declared.run.TheConstants.{MOST_STEPS}
use Rattle.book_commands.specs.RunReply.{RunReply, memory_reply}
use Rattle.book_commands.specs.Tells.{outputs, Tells}
use Rattle.book_commands.specs.declared.log.Note.{Note}
use Rattle.book_commands.specs.declared.log.Note.TheVariants.{Count}
use Rattle.book_commands.specs.declared.object.Object.TheVariants.{Source, Sink, Door}
use Rattle.book_commands.specs.declared.run_status.RunStatus.{RunStatus}
use Rattle.book_commands.specs.declared.run_status.RunStatus.TheVariants as statuses
use Rattle.commands.specs.DeskEnds.{EndsStart, desk_outside}
use Rattle.commands.specs.Outside.{Outside}
use Rattle.command_words.specs.Service.{Service}

-- ---- what is told

-- the counts of a link that failed
abbrev pub count_notes : SessionEnd → List Note
count_notes Done = []
count_notes Broken = []
count_notes (ReadFault fault) = Count Source fault.before fault.after ∷ []
count_notes (WriteFault fault) = Count Sink fault.before fault.after ∷ []
count_notes Memory = []

abbrev pub port_notes : List SessionEnd → List Note
port_notes [] = []
port_notes (end ∷ ends) = count_notes end ++ port_notes ends

-- port by port
abbrev pub link_notes : List (List SessionEnd) → List Note
link_notes [] = []
link_notes (ends ∷ ports) = port_notes ends ++ link_notes ports

-- all of them, or none where there was no memory for them
abbrev pub NotesLinks : List (List SessionEnd) → List Note → List Note → Type 0
NotesLinks faults log log' = (log' ≡ log ++ link_notes faults) ⊎ (log' ≡ log)

abbrev pub counts_text : ℕ → ℕ → ℕ → List ℕ
counts_text drafts books orders =
    line (codes "drafts" ++ number_behind drafts ++ codes " books" ++ number_behind books ++ codes " orders" ++ number_behind orders)

-- each port is over
abbrev pub counts_reply : ℕ → ℕ → ℕ → RunReply
counts_reply drafts books orders = record { text = counts_text drafts books orders; status = statuses.Done; notes = [] }

-- the door or a port failed
abbrev pub door_fault_reply : ℕ → ℕ → RunReply
door_fault_reply first last = record { text = codes "door fault\n"; status = statuses.DoorFault; notes = Count Door first last ∷ [] }

abbrev pub end_reply : ServeEnd → ℕ → ℕ → ℕ → ℕ → ℕ → RunReply
end_reply (Closed out.Failed) drafts books orders first last = door_fault_reply first last
end_reply (Closed out.Memory) drafts books orders first last = memory_reply
end_reply NoWorkers drafts books orders first last = memory_reply
end_reply (Worked Over) drafts books orders first last = counts_reply drafts books orders
end_reply (Worked Fault) drafts books orders first last = door_fault_reply first last
end_reply (Worked NoMemory) drafts books orders first last = memory_reply

-- ---- the run

abbrev pub told_of : ServeEnd → Tables → ℕ → ℕ → RunReply
told_of how t first last = end_reply how (length t.drafts) (length t.books) (length t.orders) first last

-- a desk in this state served the door: all that the workers did stands in one legal history, from this state to that of the
-- closed desk, whose rows are then those that are kept; each link was served as its session says, and every port that the door
-- gave was handed back
pub record ServesDoor (how : ServeEnd) (old : State) (service : Service) (before after : Outside) (status : RunStatus) : Type 0 where
  pub new : State
  pub faults : List (List SessionEnd)
  pub run : IsServeRun how old new (MOST_STEPS / service.workers) service.links service.workers faults before.door.told after.door.told
  pub sure : before.door.faultless ≡ true → IsOverOrMemory how
  pub valid : IsValid new.tables
  pub rows : IfSome after.keeper.rows (λ rows. rows ≡ rows_of new.tables)
  pub count : after.keeper.faults ≡ new.faults
  pub middle : List Note
  pub noted : NotesLinks faults before.writes.log middle
  pub told : Tells (told_of how new.tables before.door.told.faults after.door.told.faults) (outputs before.writes.sink middle) after.writes status
  pub untouched : after.reads ≡ before.reads

-- the desk was started from the rows
pub record HasServed (how : ServeEnd) (service : Service) (before after : Outside) (status : RunStatus) : Type 0 where
  pub old : State
  pub started : IsStarted (desk_outside before before.writes.sink) old
  pub serves : ServesDoor how old service before after status

-- no desk was started, and the door wasn't touched
pub record HasNotServed (why : Fail StartFault) (before after : Outside) (status : RunStatus) : Type 0 where
  pub run : IsNotStarted why (desk_outside before before.writes.sink) (desk_outside after before.writes.sink)
  pub told : EndsStart why before.writes after.writes status
  pub untouched : after.reads ≡ before.reads
  pub door : after.door ≡ before.door

pub data ServiceEnd : Type 0 where
  unstarted : Fail StartFault → ServiceEnd
  served : ServeEnd → ServiceEnd

abbrev pub ServesBy : ServiceEnd → Service → Outside → Outside → RunStatus → Type 0
ServesBy (unstarted why) service before after status = HasNotServed why before after status
ServesBy (served how) service before after status = HasServed how service before after status

pub record RunsService (service : Service) (before after : Outside) (status : RunStatus) : Type 0 where
  pub how : ServiceEnd
  pub runs : ServesBy how service before after status
