-- How the end of a desk's run was told.
use Rattle.std.proofs.Common.{◌≡◌, ◌∙◌, ℕ, List, refl, sym, subst, ap, inl, inr}
use Rattle.std.specs.Prelude.{◌⊎◌}
use Rattle.pb_base.specs.declared.answer.Fail.{Fail}
use Rattle.pb_base.specs.declared.answer.Fail.TheVariants.{Refused, Memory as NoMemory}
use Rattle.pb_outside.specs.Faults.{Rose}
use Rattle.pb_outside.specs.Files.{FilesTold}
use Rattle.pb_outside.specs.Sink.{SinkTold}
use Rattle.pb_outside.specs.Source.{SourceTold}
use Rattle.order_desk.specs.declared.start.StartFault.{StartFault}
use Rattle.order_desk.specs.declared.start.StartFault.TheVariants.{Store, BadRow}
use Rattle.session.specs.Session.{LinkTold}
use Rattle.session.specs.declared.end.SessionEnd.TheVariants.{Done, Broken, ReadFault, WriteFault, Memory}
use Rattle.desk_run.specs.DeskRun.{IsDeskRun}
use Rattle.desk_run.specs.declared.end.DeskEnd.{DeskEnd}
use Rattle.desk_run.specs.declared.end.DeskEnd.TheVariants.{NotStarted, Served}
use Rattle.book_commands.specs.Inputs.{Inputs, inputs}
use Rattle.book_commands.specs.RunReply.{RunReply, memory_reply, read_fault_reply}
use Rattle.book_commands.specs.Tells.{Outputs, outputs, IsWritten, Tells}
use Rattle.book_commands.specs.declared.log.Note.{Note}
use Rattle.book_commands.specs.declared.object.Object.TheVariants.{Source}
use Rattle.book_commands.specs.declared.run_status.RunStatus.{RunStatus}
use Rattle.book_commands.specs.declared.run_status.RunStatus.TheVariants as statuses
use Rattle.book_commands.proofs.Told.{Ends-of_tells}
use Rattle.commands.specs.DeskEnds.{EndsDesk, desk_outside, start_reply}
use Rattle.commands.specs.Outside.{Outside}

-- a run of a desk that left the sink in the middle
abbrev pub Ran : DeskEnd → Outside → Outside → SinkTold → Type 0
Ran how before after middle = IsDeskRun how (desk_outside before before.writes.sink) (desk_outside after middle)

-- how it was told from there
abbrev pub ToldFrom : DeskEnd → Outside → Outside → SinkTold → RunStatus → Type 0
ToldFrom how before after middle status = EndsDesk how (outputs middle before.writes.log) after.writes status

-- where no desk was started the link is as before
pub same_sink : (why : Fail StartFault) (before after : Outside) (middle : SinkTold) → Ran (NotStarted why) before after middle
    → middle ≡ before.writes.sink
same_sink why before after middle run = ap (λ (l : LinkTold). l.output) run.link

same_inputs : (a b : Inputs) → a.source ≡ b.source → a.files ≡ b.files → a ≡ b
same_inputs a b source files = ap (λ (s : SourceTold). inputs s a.files) source ∙ ap (λ (f : FilesTold). inputs b.source f) files

pub same_reads : (why : Fail StartFault) (before after : Outside) (middle : SinkTold) → Ran (NotStarted why) before after middle
    → after.reads.files ≡ before.reads.files → after.reads ≡ before.reads
same_reads why before after middle run files = same_inputs after.reads before.reads (ap (λ (l : LinkTold). l.input) run.link) files

-- a count that rose before the reply was told has risen when it was
written_rose : (reply : RunReply) (count : ℕ) (before after : Outputs) (status : RunStatus) → IsWritten reply before after status
    → before.sink.faults ≡ count → Rose count before.sink.faults → Rose count after.sink.faults
written_rose reply count before after status h same rose = elim h [
  | inl told ↦ subst (λ (n : ℕ). Rose count n) (sym told.text.count) rose
  | inr failed ↦ elim failed [
    | inl cut ↦ subst (λ (n : ℕ). Rose n after.sink.faults) same cut.text.rose
    | inr unnoted ↦ subst (λ (n : ℕ). Rose n after.sink.faults) same unnoted.text.rose
  ]
]

told_rose : (reply : RunReply) (count : ℕ) (before after : Outputs) (status : RunStatus) → Tells reply before after status
    → before.sink.faults ≡ count → Rose count before.sink.faults → Rose count after.sink.faults
told_rose reply count before after status h same rose = elim h [
  | inl written ↦ written_rose reply count before after status written same rose
  | inr memory ↦ written_rose memory_reply count before after status memory same rose
]

silent_rose : (count : ℕ) (middle : SinkTold) (after : Outputs) (log : List Note) → after ≡ outputs middle log → Rose count middle.faults → Rose count after.sink.faults
silent_rose count middle after log same rose = subst (λ (o : Outputs). Rose count o.sink.faults) (sym same) rose

pub same_count : (why : Fail StartFault) (before after : Outside) (middle : SinkTold) → Ran (NotStarted why) before after middle
    → middle.faults ≡ before.writes.sink.faults
same_count why before after middle run = ap (λ (s : SinkTold). s.faults) (same_sink why before after middle run)

-- a count of the sink that rose in the desk's run has risen in the whole
pub desk_rose : (how : DeskEnd) (before after : Outside) (middle : SinkTold) (status : RunStatus) → Ran how before after middle
    → ToldFrom how before after middle status → Rose before.writes.sink.faults middle.faults
    → Rose before.writes.sink.faults after.writes.sink.faults
desk_rose (NotStarted (Refused fault)) before after middle status run told rose =
    told_rose (start_reply fault) before.writes.sink.faults (outputs middle before.writes.log) after.writes status told
    (same_count _ before after middle run) rose
desk_rose (NotStarted NoMemory) before after middle status run told rose =
    written_rose memory_reply before.writes.sink.faults (outputs middle before.writes.log) after.writes status told
    (same_count _ before after middle run) rose
desk_rose (Served Done) before after middle status run told rose = silent_rose _ middle after.writes _ told.untouched rose
desk_rose (Served Broken) before after middle status run told rose = silent_rose _ middle after.writes _ told.untouched rose
desk_rose (Served (ReadFault fault)) before after middle status run told rose =
    told_rose (read_fault_reply Source fault.before fault.after) before.writes.sink.faults (outputs middle before.writes.log) after.writes status told
    run.served.dealt.session.written.count rose
desk_rose (Served (WriteFault fault)) before after middle status run told rose =
    subst (λ (s : SinkTold). Rose before.writes.sink.faults s.faults) (sym told.sink) rose
desk_rose (Served Memory) before after middle status run told rose = silent_rose _ middle after.writes _ told.untouched rose

pub start_status : (fault : StartFault) → (start_reply fault).status ≡ statuses.NotStarted
start_status (Store first last) = refl
start_status (BadRow table place) = refl

-- the status where no desk was started
failed_status : (reply : RunReply) (before after : Outputs) (status : RunStatus) → Tells reply before after status → reply.status ≡ statuses.NotStarted
    → (status ≡ statuses.WriteFault) ⊎ (status ≡ statuses.NotStarted) ⊎ (status ≡ statuses.WantOfMemory)
failed_status reply before after status h six = elim (Ends-of_tells reply before after status h) [
  | inl told ↦ inr (inl (told.ends ∙ six))
  | inr failed ↦ elim failed [ inl sink ↦ inl sink.ends | inr nine ↦ inr (inr nine) ]
]

memory_status : (before after : Outputs) (status : RunStatus) → IsWritten memory_reply before after status → (status ≡ statuses.WriteFault) ⊎ (status ≡ statuses.NotStarted) ⊎ (status ≡ statuses.WantOfMemory)
memory_status before after status h = elim (Ends-of_tells memory_reply before after status (inl h)) [
  | inl told ↦ inr (inr told.ends)
  | inr failed ↦ elim failed [ inl sink ↦ inl sink.ends | inr nine ↦ inr (inr nine) ]
]

pub unstarted_status : (why : Fail StartFault) (before after : Outside) (middle : SinkTold) (status : RunStatus)
    → ToldFrom (NotStarted why) before after middle status → (status ≡ statuses.WriteFault) ⊎ (status ≡ statuses.NotStarted) ⊎ (status ≡ statuses.WantOfMemory)
unstarted_status (Refused fault) before after middle status told =
    failed_status (start_reply fault) (outputs middle before.writes.log) after.writes status told (start_status fault)
unstarted_status NoMemory before after middle status told = memory_status (outputs middle before.writes.log) after.writes status told
