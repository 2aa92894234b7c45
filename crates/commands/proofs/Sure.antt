-- Valid words and inputs have their answer where nothing fails, memory and the sink's room allowing.
use Rattle.std.proofs.Common.{◌≡◌, ◌∙◌, ◌<◌, ℕ, List, true, false, length, refl, sym, subst, ap, inl, inr}
use Rattle.std.specs.Prelude.{◌⊎◌, IsSome, IsSomeAnd}
use Rattle.command_words.specs.Parts.{Words}
use Rattle.pb_base.specs.declared.answer.Fail.TheVariants.{Refused, Memory as NoMemory}
use Rattle.pb_outside.specs.Faults.{Rose}
use Rattle.pb_outside.specs.Files.{FilesTold, FailsToRead}
use Rattle.book_model.specs.Contents.{Contents}
use Rattle.pb_outside.specs.Sink.{SinkTold}
use Rattle.pb_outside.specs.declared.error.OutError.TheVariants as out
use Rattle.order_desk.specs.Tables.{State, Tables}
use Rattle.order_desk.specs.declared.start.StartFault.TheVariants.{BadRow, Store}
use Rattle.serve_run.specs.declared.work_end.WorkEnd.TheVariants.{Over, Fault, Memory as WantsMemory}
use Rattle.serve_run.specs.ServeRun.{IsOverOrMemory}
use Rattle.serve_run.specs.declared.end.ServeEnd.TheVariants.{Closed, NoWorkers, Worked}
use Rattle.session.specs.declared.end.SessionEnd.TheVariants.{Done, WriteFault, Memory}
use Rattle.desk_run.specs.DeskRun.{IsStarted}
use Rattle.desk_run.specs.Sure.{IsDoneOrMemory}
use Rattle.desk_run.proofs.Sure.{no_bad_row, run_unfailing}
use Rattle.desk_run.specs.declared.end.DeskEnd.{DeskEnd}
use Rattle.desk_run.specs.declared.end.DeskEnd.TheVariants.{NotStarted, Served}
use Rattle.book_commands.specs.BookFile as file
use Rattle.book_commands.specs.BookFile.{HasBook, RepliesToFile}
use Rattle.book_commands.specs.Due.{Due, answer, source_fault, file_fault, no_memory}
use Rattle.book_commands.specs.Ends.{EndsSample, IsDecided}
use Rattle.book_commands.specs.Inputs.{Inputs, ReadsInput, FailsAtInput}
use Rattle.book_commands.specs.Promises.{promise_of}
use Rattle.book_commands.specs.RunReply.{RunReply, memory_reply, memory_text}
use Rattle.book_commands.specs.Sample.{RepliesToSample}
use Rattle.command_words.specs.Size.{Size}
use Rattle.book_commands.specs.Tells.{Outputs, IsTold, IsWritten, outputs, Tells}
use Rattle.command_words.specs.declared.task.BookCommand.{BookCommand}
use Rattle.book_commands.specs.declared.log.Note.{Note}
use Rattle.book_commands.specs.declared.run_status.RunStatus.{RunStatus}
use Rattle.book_commands.specs.declared.run_status.RunStatus.TheVariants as statuses
use Rattle.book_commands.proofs.BookFileLaws.{has_file, valid_content, content_answered}
use Rattle.book_commands.proofs.Lawful.{no_fault, valid_answer}
use Rattle.book_commands.proofs.Promises.{lawful}
use Rattle.book_commands.proofs.Statuses.{sample-answered}
use Rattle.book_commands.proofs.Told.{LacksRoomFor, Ends-of_tells, told_room, told_or_lacks, written_or_lacks}
use Rattle.book_commands.proofs.Valid.{same_input}
use Rattle.commands.specs.Complete.{IsValidRead, IsValidTask, IsValidInput, CannotFailToRead, CannotFailToServe, CannotFailToOpen, CannotFailAt, CannotFail, NoCountRose, EndsNoted, EndsTask, IsAnswered, IsDueText, of_reply, of_sample, of_link, of_service, of_rejudge, of_file, of_impact, of_memory, IsValidImpact, LacksRoom}
use Rattle.commands.specs.DeskEnds.{RunsDesk, desk_outside}
use Rattle.commands.specs.Does.{AnswersBook, AnswersSample, DoesTask, Does}
use Rattle.commands.specs.Outside.{Outside}
use Rattle.commands.specs.Impacted.{ImpactEnd, kept_back, judged_by, ImpactsBy, RepliesToImpact}
use Rattle.commands.specs.Rejudged.{RejudgeEnd, unjudged, judged, JudgesBy, RepliesToRejudge}
use Rattle.command_words.specs.Impact.{Impact as ImpactWords}
use Rattle.command_words.specs.Rejudging.{Rejudging}
use Rattle.command_words.specs.Service.{Service}
use Rattle.commands.specs.Serves.{ServiceEnd, unstarted, served, ServesBy}
use Rattle.command_words.specs.Meaning.{Asks}
use Rattle.command_words.specs.declared.task.Task.{Task}
use Rattle.command_words.specs.declared.task.Task.TheVariants.{Book, Desk, Serve, Rejudge, Impact, Sample}
use Rattle.commands.proofs.DeskSure.{IsShort, sure_or_short, never_fails}
use Rattle.commands.proofs.DeskTold.{Ran, ToldFrom, same_sink, desk_rose}
use Rattle.commands.proofs.Rejudges.{reply_status}

-- the task was answered, or memory was wanting
abbrev EndsAt : Task → Outside → Outside → RunStatus → Type 0
EndsAt task before after status = EndsTask task before after status ⊎ (status ≡ statuses.WantOfMemory)

-- or the sink lacks room
abbrev EndsOrLacks : Words → Task → Outside → Outside → RunStatus → Type 0
EndsOrLacks words task before after status = EndsAt task before after status ⊎ LacksRoom words before after status

-- a reply that was told, with its notes
noted : (IsEnd : RunStatus → List Note → Type 0) (reply : RunReply) (before after : Outside) (status : RunStatus) → IsEnd reply.status reply.notes
    → IsTold reply before.writes after.writes status → EndsNoted IsEnd before after status
noted IsEnd reply before after status h told = record {
  notes = reply.notes;
  noted = told.notes;
  is_end = subst (λ (s : RunStatus). IsEnd s reply.notes) (sym told.ends) h;
}

lacks : (words : Words) (before after : Outside) (status : RunStatus) (text : List ℕ) → IsDueText words before after text
    → LacksRoomFor text before.writes status → LacksRoom words before after status
lacks words before after status text due h = record { ends = h.ends; text = text; due = due; room = h.room }

-- what a command reads from doesn't fail
record FailsNowhere (command : BookCommand) (before after : Inputs) : Type 0 where
  pub source : FailsAtInput before.source after.source → ⊥
  pub files : (input : List ℕ) → ReadsInput before.source after.source input → (promise_of command).fails_at_file input before.files after.files → ⊥

-- a reply to a valid command was told
told_answer : (command : BookCommand) (before after : Outside) (status : RunStatus) (reply : RunReply) → IsValidRead command before.reads
    → FailsNowhere command before.reads after.reads → Due command before.reads after.reads reply
    → IsTold reply before.writes after.writes status → EndsAt (Book command) before after status
told_answer command before after status reply v nowhere (answer read reads replies) told =
    let same = same_input before.reads.source.left after.reads.source.left v.input read v.given reads.text in
    inl (noted (promise_of command).is_answer reply before after status
    (valid_answer (promise_of command) v.input read before.reads.files after.reads.files reply (lawful command) same v.valid replies) told)
told_answer command before after status reply v nowhere (source_fault fails same is) told = absurd (nowhere.source fails)
told_answer command before after status reply v nowhere (file_fault read reads fails is) told = absurd (nowhere.files read reads fails)
told_answer command before after status reply v nowhere (no_memory front is) told = inr (told.ends ∙ ap (λ (r : RunReply). r.status) is)

-- a sample whose reply was told, or that found no memory
told_sample : (size : Size) (reply : RunReply) (before after : Outside) (status : RunStatus) → RepliesToSample size reply ⊎ (reply ≡ memory_reply)
    → IsTold reply before.writes after.writes status → EndsAt (Sample size) before after status
told_sample size reply before after status due told = elim due [
  | inl replies ↦ inl (noted EndsSample reply before after status (sample-answered size reply replies) told)
  | inr is ↦ inr (told.ends ∙ ap (λ (r : RunReply). r.status) is)
]

sample_text_due : (words : Words) (size : Size) (reply : RunReply) (before after : Outside) → Asks words (Sample size)
    → RepliesToSample size reply ⊎ (reply ≡ memory_reply) → IsDueText words before after reply.text
sample_text_due words size reply before after asked due = elim due [
  | inl replies ↦ of_sample size reply asked replies refl
  | inr is ↦ of_memory (ap (λ (r : RunReply). r.text) is)
]

-- ---- no call fails from here on

sure_reads : (command : BookCommand) (before after : Inputs) → IsValidRead command before → CannotFailToRead before → FailsNowhere command before after
sure_reads command before after v calls = record {
  source = λ fails. let clash : true ≡ false = sym calls.source ∙ fails.fault.possible in cc;
  files = λ read reads fails.
      no_fault (promise_of command) v.input read before.files after.files (lawful command) (same_input before.source.left after.source.left v.input read v.given reads.text)
      v.valid calls.files fails;
}

sure_book : (words : Words) (command : BookCommand) (before after : Outside) (status : RunStatus) → Asks words (Book command)
    → IsValidRead command before.reads → CannotFailToRead before.reads → IsSome before.writes.sink.room → AnswersBook command before after status
    → EndsOrLacks words (Book command) before after status
sure_book words command before after status asked v calls room h = elim (told_or_lacks h.reply before.writes after.writes status room h.told) [
  | inl told ↦ inl (told_answer command before after status h.reply v (sure_reads command before.reads after.reads v calls) h.due told)
  | inr other ↦ elim other [
    | inl short ↦ inr (lacks words before after status h.reply.text (of_reply command h.reply asked h.due refl) short)
    | inr rest ↦ elim rest [ inl short ↦ inr (lacks words before after status memory_text (of_memory refl) short) | inr nine ↦ inl (inr nine) ]
  ]
]

sure_sample : (words : Words) (size : Size) (before after : Outside) (status : RunStatus) → Asks words (Sample size)
    → IsSome before.writes.sink.room → AnswersSample size before after status → EndsOrLacks words (Sample size) before after status
sure_sample words size before after status asked room h = elim (told_or_lacks h.tells.reply before.writes after.writes status room h.tells.told) [
  | inl told ↦ inl (told_sample size h.tells.reply before after status h.tells.due told)
  | inr other ↦ elim other [
    | inl short ↦ inr (lacks words before after status h.tells.reply.text (sample_text_due words size h.tells.reply before after asked h.tells.due) short)
    | inr rest ↦ elim rest [ inl short ↦ inr (lacks words before after status memory_text (of_memory refl) short) | inr nine ↦ inl (inr nine) ]
  ]
]

-- a desk that served its link to the end, or had no memory
desk_done : (store : List ℕ) (how : DeskEnd) (before after : Outside) (middle : SinkTold) (status : RunStatus) (P : Type 0) → IsDoneOrMemory how
    → ToldFrom how before after middle status
    → (how ≡ NotStarted NoMemory → IsWritten memory_reply (outputs middle before.writes.log) after.writes status → (status ≡ statuses.WantOfMemory) ⊎ P)
    → EndsAt (Desk store) before after status ⊎ P
desk_done store how before after middle status P done told memory = elim done [
  | inl at_end ↦ let ends : ToldFrom (Served Done) before after middle status = told_as (Served Done) at_end in inl (inl ends.ends)
  | inr wanting ↦ elim wanting [
    | inl at_want ↦ let ends : ToldFrom (Served Memory) before after middle status = told_as (Served Memory) at_want in inl (inr ends.ends)
    | inr at_start ↦ elim (memory at_start (told_as (NotStarted NoMemory) at_start)) [ inl nine ↦ inl (inr nine) | inr p ↦ inr p ]
  ]
]
  where
    told_as : (end : DeskEnd) → how ≡ end → ToldFrom end before after middle status
    told_as end e = subst (λ (h : DeskEnd). ToldFrom h before after middle status) e told

-- no desk was started, so the sink is as before
unstarted_sink : (how : DeskEnd) (before after : Outside) (middle : SinkTold) → Ran how before after middle → how ≡ NotStarted NoMemory
    → middle ≡ before.writes.sink
unstarted_sink how before after middle run e =
    same_sink NoMemory before after middle (subst (λ (h : DeskEnd). Ran h before after middle) e run)

-- the line of want of memory was told, or there was no room for it
memory_told : (words : Words) (before after : Outside) (middle : SinkTold) (status : RunStatus) → middle ≡ before.writes.sink
    → IsSome before.writes.sink.room → IsWritten memory_reply (outputs middle before.writes.log) after.writes status
    → (status ≡ statuses.WantOfMemory) ⊎ LacksRoom words before after status
memory_told words before after middle status same room written =
    let from : IsWritten memory_reply before.writes after.writes status =
    subst (λ (k : SinkTold). IsWritten memory_reply (outputs k before.writes.log) after.writes status) same written in
    elim (written_or_lacks memory_reply before.writes after.writes status room from) [
      | inl told ↦ inl told.ends
      | inr other ↦ elim other [ inl short ↦ inr (lacks words before after status memory_text (of_memory refl) short) | inr nine ↦ inl nine ]
    ]

-- the link took less than all that is due
short_link : (words : Words) (store : List ℕ) (how : DeskEnd) (before after : Outside) (middle : SinkTold) (status : RunStatus) → Asks words (Desk store)
    → IsSome before.writes.sink.room → IsShort how (desk_outside before before.writes.sink) → ToldFrom how before after middle status
    → EndsOrLacks words (Desk store) before after status
short_link words store how before after middle status asked room short told =
    let unwritten : ToldFrom (Served (WriteFault short.fault)) before after middle status =
    subst (λ (h : DeskEnd). ToldFrom h before after middle status) short.ends told in
    elim unwritten.notes [
      | inl noted ↦ inr (record {
        ends = noted.1;
        text = short.out;
        due = of_link store short.old short.stop short.new asked short.started short.due;
        room = told_room before.writes.sink.room short.out room short.no_room;
      })
      | inr unnoted ↦ inl (inr unnoted.1)
    ]

sure_desk : (words : Words) (store : List ℕ) (before after : Outside) (status : RunStatus) → Asks words (Desk store) → IsValidTask (Desk store) before
    → CannotFailToServe before → IsSome before.writes.sink.room → RunsDesk before after status → EndsOrLacks words (Desk store) before after status
sure_desk words store before after status asked v calls room h =
    elim (sure_or_short h.how (desk_outside before before.writes.sink) (desk_outside after h.middle) v calls.source calls.keeper h.run) [
      | inl done ↦ desk_done store h.how before after h.middle status (LacksRoom words before after status) done h.told
          (λ e. memory_told words before after h.middle status (unstarted_sink h.how before after h.middle h.run e) room)
      | inr short ↦ short_link words store h.how before after h.middle status asked room short h.told
    ]

-- a service's end was told, or the sink lacks room for that, or memory was wanting
end_told : (words : Words) (task : Task) (reply : RunReply) (first : Outputs) (before after : Outside) (status : RunStatus)
    → first.sink ≡ before.writes.sink → IsSome before.writes.sink.room → Tells reply first after.writes status
    → (status ≡ reply.status → EndsAt task before after status) → IsDueText words before after reply.text
    → EndsOrLacks words task before after status
end_told words task reply first before after status same room told ends due =
    elim (told_or_lacks reply first after.writes status (subst (λ (s : SinkTold). IsSome s.room) (sym same) room) told) [
      | inl whole ↦ inl (ends whole.ends)
      | inr other ↦ elim other [
        | inl short ↦ inr (short_of reply.text due short)
        | inr rest ↦ elim rest [ inl short ↦ inr (short_of memory_text (of_memory refl) short) | inr nine ↦ inl (inr nine) ]
      ]
    ]
  where
    short_of : (text : List ℕ) → IsDueText words before after text → LacksRoomFor text first status → LacksRoom words before after status
    short_of text is_due short = record {
      ends = short.ends;
      text = text;
      due = is_due;
      room = subst (λ (s : SinkTold). IsSomeAnd s.room (λ bytes. bytes < length text)) same short.room;
    }

-- no port failed, and the door gave them
not_over : IsOverOrMemory (Worked Fault) → ⊥
not_over h = elim h [
  | inl over ↦ cc
  | inr other ↦ elim other [ inl memory ↦ cc | inr rest ↦ elim rest [ inl workers ↦ cc | inr closed ↦ cc ] ]
]

not_given : IsOverOrMemory (Closed out.Failed) → ⊥
not_given h = elim h [
  | inl over ↦ cc
  | inr other ↦ elim other [ inl memory ↦ cc | inr rest ↦ elim rest [ inl workers ↦ cc | inr closed ↦ cc ] ]
]

sure_service_end : (how : ServiceEnd) (words : Words) (service : Service) (before after : Outside) (status : RunStatus) → Asks words (Serve service)
    → IsValidTask (Serve service) before → CannotFailToOpen before → IsSome before.writes.sink.room → ServesBy how service before after status
    → EndsOrLacks words (Serve service) before after status
sure_service_end (unstarted (Refused (BadRow table place))) words service before after status asked v calls room run =
    absurd (no_bad_row before.keeper.rows (table, place) v run.run.cause.first)
sure_service_end (unstarted (Refused (Store first last))) words service before after status asked v calls room run =
    absurd (never_fails before.keeper.faults after.keeper.faults calls.keeper run.run.cause.fails)
sure_service_end (unstarted NoMemory) words service before after status asked v calls room run =
    end_told words (Serve service) memory_reply before.writes before after status refl room (inl run.told) inr (of_memory refl)
sure_service_end (served (Worked Over)) words service before after status asked v calls room run =
    let history = run.serves.run.served in
    end_told words (Serve service) _ _ before after status refl room run.serves.told inl
    (of_service service run.old run.serves.new asked run.started (history.history, history.legal, history.reached) refl)
sure_service_end (served (Worked Fault)) words service before after status asked v calls room run = absurd (not_over (run.serves.sure calls.door))
sure_service_end (served (Worked WantsMemory)) words service before after status asked v calls room run =
    end_told words (Serve service) memory_reply _ before after status refl room run.serves.told inr (of_memory refl)
sure_service_end (served NoWorkers) words service before after status asked v calls room run =
    end_told words (Serve service) memory_reply _ before after status refl room run.serves.told inr (of_memory refl)
sure_service_end (served (Closed out.Failed)) words service before after status asked v calls room run = absurd (not_given (run.serves.sure calls.door))
sure_service_end (served (Closed out.Memory)) words service before after status asked v calls room run =
    end_told words (Serve service) memory_reply _ before after status refl room run.serves.told inr (of_memory refl)

-- kept orders that were judged again, or whose judging found no memory
judged_ends : (r : Rejudging) (t : Tables) (reply : RunReply) (before after : Outside) (status : RunStatus)
    → RepliesToRejudge r t reply ⊎ (reply ≡ memory_reply) → status ≡ reply.status → EndsAt (Rejudge r) before after status
judged_ends r t reply before after status due ends = elim due [
  | inl replies ↦ inl (reply_status r t reply status replies ends)
  | inr is ↦ inr (ends ∙ ap (λ (k : RunReply). k.status) is)
]

rejudge_text_due : (words : Words) (r : Rejudging) (old : State) (reply : RunReply) (before after : Outside) → Asks words (Rejudge r)
    → IsStarted (desk_outside before before.writes.sink) old → RepliesToRejudge r old.tables reply ⊎ (reply ≡ memory_reply)
    → IsDueText words before after reply.text
rejudge_text_due words r old reply before after asked started due = elim due [
  | inl replies ↦ of_rejudge r old reply asked started replies refl
  | inr is ↦ of_memory (ap (λ (k : RunReply). k.text) is)
]

sure_rejudge_end : (how : RejudgeEnd) (words : Words) (r : Rejudging) (before after : Outside) (status : RunStatus) → Asks words (Rejudge r)
    → IsValidTask (Rejudge r) before → CannotFailAt (Rejudge r) before → IsSome before.writes.sink.room → JudgesBy how (RepliesToRejudge r) before after status
    → EndsOrLacks words (Rejudge r) before after status
sure_rejudge_end (unjudged (Refused (BadRow table place))) words r before after status asked v keeper room run =
    absurd (no_bad_row before.keeper.rows (table, place) v run.run.cause.first)
sure_rejudge_end (unjudged (Refused (Store first last))) words r before after status asked v keeper room run =
    absurd (never_fails before.keeper.faults after.keeper.faults keeper run.run.cause.fails)
sure_rejudge_end (unjudged NoMemory) words r before after status asked v keeper room run =
    end_told words (Rejudge r) memory_reply before.writes before after status refl room (inl run.told) inr (of_memory refl)
sure_rejudge_end judged words r before after status asked v keeper room run =
    end_told words (Rejudge r) run.judges.reply before.writes before after status refl room run.judges.told
    (judged_ends r run.old.tables run.judges.reply before after status run.judges.due)
    (rejudge_text_due words r run.old run.judges.reply before after asked run.started run.judges.due)

-- the book of a file that was kept back
file_ends : (i : ImpactWords) (reply : RunReply) (before after : Outside) (status : RunStatus) → IsValidImpact i before
    → (FailsToRead i.file before.reads.files after.reads.files → ⊥) → RepliesToFile i.file before.reads.files after.reads.files reply → status ≡ reply.status
    → EndsAt (Impact i) before after status
file_ends i reply before after status v sure (file.unread fails is) ends = absurd (sure fails)
file_ends i reply before after status v sure (file.kept_back content read count replies) ends =
    elim (content_answered content reply (valid_content before.reads.files.files i.file content v.file read) replies) [
      | inl decided ↦ inl (inl (subst IsDecided (sym ends) decided))
      | inr left ↦ inl (inr (ends ∙ left.ends))
    ]
file_ends i reply before after status v sure (file.no_memory is) ends = inr (ends ∙ ap (λ (k : RunReply). k.status) is)

-- kept orders that were judged by it, or whose judging found no memory
impact_ends : (i : ImpactWords) (b : Contents) (t : Tables) (reply : RunReply) (before after : Outside) (status : RunStatus)
    → RepliesToImpact b t reply ⊎ (reply ≡ memory_reply) → status ≡ reply.status → EndsAt (Impact i) before after status
impact_ends i b t reply before after status due ends = elim due [
  | inl replies ↦ inl (inl (inl (ends ∙ ap (λ (k : RunReply). k.status) replies.is)))
  | inr is ↦ inr (ends ∙ ap (λ (k : RunReply). k.status) is)
]

impact_text_due : (words : Words) (i : ImpactWords) (b : Contents) (files : FilesTold) (old : State) (reply : RunReply) (before after : Outside) → Asks words (Impact i)
    → HasBook i.file before.reads.files files b → IsStarted (desk_outside before before.writes.sink) old
    → RepliesToImpact b old.tables reply ⊎ (reply ≡ memory_reply) → IsDueText words before after reply.text
impact_text_due words i b files old reply before after asked has started due = elim due [
  | inl replies ↦ of_impact i b files old reply asked has started replies refl
  | inr is ↦ of_memory (ap (λ (k : RunReply). k.text) is)
]

sure_impact_end : (how : ImpactEnd) (words : Words) (i : ImpactWords) (before after : Outside) (status : RunStatus) → Asks words (Impact i)
    → IsValidTask (Impact i) before → CannotFailAt (Impact i) before → IsSome before.writes.sink.room → ImpactsBy how i before after status
    → EndsOrLacks words (Impact i) before after status
sure_impact_end kept_back words i before after status asked v calls room run =
    end_told words (Impact i) run.reply before.writes before after status refl room run.told
    (file_ends i run.reply before after status v (λ fails. has_file before.reads.files.files i.file v.file (fails.possible calls.files)) run.due)
    (of_file i run.reply asked run.due refl)
sure_impact_end (judged_by (unjudged (Refused (BadRow table place)))) words i before after status asked v calls room run =
    absurd (no_bad_row before.keeper.rows (table, place) v.rows run.runs.run.cause.first)
sure_impact_end (judged_by (unjudged (Refused (Store first last)))) words i before after status asked v calls room run =
    absurd (never_fails before.keeper.faults after.keeper.faults calls.keeper run.runs.run.cause.fails)
sure_impact_end (judged_by (unjudged NoMemory)) words i before after status asked v calls room run =
    end_told words (Impact i) memory_reply before.writes before after status refl room (inl run.runs.told) inr (of_memory refl)
sure_impact_end (judged_by judged) words i before after status asked v calls room run =
    end_told words (Impact i) run.runs.judges.reply before.writes before after status refl room run.runs.judges.told
    (impact_ends i run.book run.runs.old.tables run.runs.judges.reply before after status run.runs.judges.due)
    (impact_text_due words i run.book run.files run.runs.old run.runs.judges.reply before after asked run.has run.runs.started run.runs.judges.due)

sure_task : (words : Words) (task : Task) (before after : Outside) (status : RunStatus) → Asks words task → IsValidTask task before
    → CannotFailAt task before → IsSome before.writes.sink.room → DoesTask task before after status → EndsOrLacks words task before after status
sure_task words (Book command) before after status asked v calls room h = sure_book words command before after status asked v calls room h
sure_task words (Desk store) before after status asked v calls room h = sure_desk words store before after status asked v calls room h
sure_task words (Serve service) before after status asked v calls room h =
    sure_service_end h.how words service before after status asked v calls room h.runs
sure_task words (Rejudge r) before after status asked v calls room h =
    sure_rejudge_end h.how words r before after status asked v calls room h.runs
sure_task words (Impact i) before after status asked v calls room h =
    sure_impact_end h.how words i before after status asked v calls room h.runs
sure_task words (Sample size) before after status asked v calls room h = sure_sample words size before after status asked room h

pub Does-sure : (words : Words) (before after : Outside) (status : RunStatus) → Does words before after status → CannotFail words before
    → IsAnswered words before after status ⊎ LacksRoom words before after status
Does-sure words before after status does s =
    let task = s.input.task in
    let asked = s.input.asked in
    elim (sure_task words task before after status asked s.input.valid s.calls s.room (does.asked task asked)) [
      | inl ends ↦ inl (record { task = task; asked = asked; ends = ends })
      | inr short ↦ inr short
    ]

-- ---- no count rose

unrisen_reads : (command : BookCommand) (before after : Outside) → NoCountRose before after → FailsNowhere command before.reads after.reads
unrisen_reads command before after none = record {
  source = λ fails. none.source fails.fault.rose;
  files = λ read reads fails. none.files ((lawful command).file_rose read before.reads.files after.reads.files fails);
}

unfailing_book : (command : BookCommand) (before after : Outside) (status : RunStatus) → IsValidRead command before.reads → NoCountRose before after
    → AnswersBook command before after status → EndsAt (Book command) before after status
unfailing_book command before after status v none h = elim (Ends-of_tells h.reply before.writes after.writes status h.told) [
  | inl told ↦ told_answer command before after status h.reply v (unrisen_reads command before after none) h.due told
  | inr failed ↦ elim failed [ inl sink ↦ absurd (none.sink sink.rose) | inr nine ↦ inr nine ]
]

unfailing_sample : (size : Size) (before after : Outside) (status : RunStatus) → NoCountRose before after → AnswersSample size before after status
    → EndsAt (Sample size) before after status
unfailing_sample size before after status none h = elim (Ends-of_tells h.tells.reply before.writes after.writes status h.tells.told) [
  | inl told ↦ told_sample size h.tells.reply before after status h.tells.due told
  | inr failed ↦ elim failed [ inl sink ↦ absurd (none.sink sink.rose) | inr nine ↦ inr nine ]
]

-- a sink that is as before, and whose count didn't rise, took the line of want of memory
unrisen_memory : (before after : Outside) (middle : SinkTold) (status : RunStatus) → middle ≡ before.writes.sink → NoCountRose before after
    → IsWritten memory_reply (outputs middle before.writes.log) after.writes status → (status ≡ statuses.WantOfMemory) ⊎ ⊥
unrisen_memory before after middle status same none written =
    elim (Ends-of_tells memory_reply (outputs middle before.writes.log) after.writes status (inl written)) [
      | inl told ↦ inl told.ends
      | inr failed ↦ elim failed [
        | inl sink ↦ absurd (none.sink (subst (λ (k : SinkTold). Rose k.faults after.writes.sink.faults) same sink.rose))
        | inr nine ↦ inl nine
      ]
    ]

unfailing_desk : (store : List ℕ) (before after : Outside) (status : RunStatus) → IsValidTask (Desk store) before → NoCountRose before after
    → RunsDesk before after status → EndsAt (Desk store) before after status
unfailing_desk store before after status v none h =
    let done = run_unfailing h.how (desk_outside before before.writes.sink) (desk_outside after h.middle) h.run v (record {
      source = none.source;
      sink = λ rose. none.sink (desk_rose h.how before after h.middle status h.run h.told rose);
      keeper = none.keeper;
    }) in
    elim (desk_done store h.how before after h.middle status ⊥ done h.told
    (λ e. unrisen_memory before after h.middle status (unstarted_sink h.how before after h.middle h.run e) none)) [
      | inl ends ↦ ends
      | inr never ↦ absurd never
    ]

-- a service's end was told, or memory was wanting
unrisen_end : (task : Task) (reply : RunReply) (first : Outputs) (before after : Outside) (status : RunStatus) → first.sink ≡ before.writes.sink
    → NoCountRose before after → Tells reply first after.writes status → (status ≡ reply.status → EndsAt task before after status)
    → EndsAt task before after status
unrisen_end task reply first before after status same none told ends = elim (Ends-of_tells reply first after.writes status told) [
  | inl whole ↦ ends whole.ends
  | inr failed ↦ elim failed [
    | inl sink ↦ absurd (none.sink (subst (λ (s : SinkTold). Rose s.faults after.writes.sink.faults) same sink.rose))
    | inr nine ↦ inr nine
  ]
]

unfailing_service : (how : ServiceEnd) (service : Service) (before after : Outside) (status : RunStatus) → IsValidTask (Serve service) before
    → NoCountRose before after → ServesBy how service before after status → EndsAt (Serve service) before after status
unfailing_service (unstarted (Refused (BadRow table place))) service before after status v none run =
    absurd (no_bad_row before.keeper.rows (table, place) v run.run.cause.first)
unfailing_service (unstarted (Refused (Store first last))) service before after status v none run = absurd (none.keeper run.run.cause.fails.rose)
unfailing_service (unstarted NoMemory) service before after status v none run =
    unrisen_end (Serve service) memory_reply before.writes before after status refl none (inl run.told) inr
unfailing_service (served (Worked Over)) service before after status v none run = unrisen_end (Serve service) _ _ before after status refl none run.serves.told inl
unfailing_service (served (Worked Fault)) service before after status v none run = absurd (none.door (run.serves.run.cause refl))
unfailing_service (served (Worked WantsMemory)) service before after status v none run =
    unrisen_end (Serve service) memory_reply _ before after status refl none run.serves.told inr
unfailing_service (served NoWorkers) service before after status v none run =
    unrisen_end (Serve service) memory_reply _ before after status refl none run.serves.told inr
unfailing_service (served (Closed out.Failed)) service before after status v none run = absurd (none.door (run.serves.run.2 refl))
unfailing_service (served (Closed out.Memory)) service before after status v none run =
    unrisen_end (Serve service) memory_reply _ before after status refl none run.serves.told inr

unfailing_rejudge : (how : RejudgeEnd) (r : Rejudging) (before after : Outside) (status : RunStatus) → IsValidTask (Rejudge r) before
    → NoCountRose before after → JudgesBy how (RepliesToRejudge r) before after status → EndsAt (Rejudge r) before after status
unfailing_rejudge (unjudged (Refused (BadRow table place))) r before after status v none run =
    absurd (no_bad_row before.keeper.rows (table, place) v run.run.cause.first)
unfailing_rejudge (unjudged (Refused (Store first last))) r before after status v none run = absurd (none.keeper run.run.cause.fails.rose)
unfailing_rejudge (unjudged NoMemory) r before after status v none run =
    unrisen_end (Rejudge r) memory_reply before.writes before after status refl none (inl run.told) inr
unfailing_rejudge judged r before after status v none run =
    unrisen_end (Rejudge r) run.judges.reply before.writes before after status refl none run.judges.told
    (judged_ends r run.old.tables run.judges.reply before after status run.judges.due)

unfailing_impact : (how : ImpactEnd) (i : ImpactWords) (before after : Outside) (status : RunStatus) → IsValidTask (Impact i) before
    → NoCountRose before after → ImpactsBy how i before after status → EndsAt (Impact i) before after status
unfailing_impact kept_back i before after status v none run =
    unrisen_end (Impact i) run.reply before.writes before after status refl none run.told
    (file_ends i run.reply before after status v (λ fails. none.files fails.rose) run.due)
unfailing_impact (judged_by (unjudged (Refused (BadRow table place)))) i before after status v none run =
    absurd (no_bad_row before.keeper.rows (table, place) v.rows run.runs.run.cause.first)
unfailing_impact (judged_by (unjudged (Refused (Store first last)))) i before after status v none run = absurd (none.keeper run.runs.run.cause.fails.rose)
unfailing_impact (judged_by (unjudged NoMemory)) i before after status v none run =
    unrisen_end (Impact i) memory_reply before.writes before after status refl none (inl run.runs.told) inr
unfailing_impact (judged_by judged) i before after status v none run =
    unrisen_end (Impact i) run.runs.judges.reply before.writes before after status refl none run.runs.judges.told
    (impact_ends i run.book run.runs.old.tables run.runs.judges.reply before after status run.runs.judges.due)

unfailing_task : (task : Task) (before after : Outside) (status : RunStatus) → IsValidTask task before → NoCountRose before after
    → DoesTask task before after status → EndsAt task before after status
unfailing_task (Book command) before after status v none h = unfailing_book command before after status v none h
unfailing_task (Desk store) before after status v none h = unfailing_desk store before after status v none h
unfailing_task (Serve service) before after status v none h = unfailing_service h.how service before after status v none h.runs
unfailing_task (Rejudge r) before after status v none h = unfailing_rejudge h.how r before after status v none h.runs
unfailing_task (Impact i) before after status v none h = unfailing_impact h.how i before after status v none h.runs
unfailing_task (Sample size) before after status v none h = unfailing_sample size before after status none h

pub Does-unfailing : (words : Words) (before after : Outside) (status : RunStatus) → Does words before after status → IsValidInput words before
    → NoCountRose before after → IsAnswered words before after status
Does-unfailing words before after status does v none =
    record { task = v.task; asked = v.asked; ends = unfailing_task v.task before after status v.valid none (does.asked v.task v.asked) }
