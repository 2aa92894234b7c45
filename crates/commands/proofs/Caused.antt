-- From what each status comes.
use Rattle.std.proofs.Common.{◌≡◌, ◌∙◌, ℕ, List, refl, sym, subst, ap, inl, inr}
use Rattle.std.specs.Prelude.{◌⊎◌}
use Rattle.pb_outside.specs.Faults.{Rose}
use Rattle.command_words.specs.Parts.{Words}
use Rattle.pb_base.specs.declared.answer.Fail.TheVariants.{Refused as RefusedStart, Memory as NoMemory}
use Rattle.pb_outside.specs.Sink.{SinkTold}
use Rattle.session.specs.declared.end.SessionEnd.TheVariants.{Done, Broken, ReadFault, WriteFault, Memory}
use Rattle.pb_outside.specs.declared.error.OutError.TheVariants as out
use Rattle.serve_run.specs.declared.work_end.WorkEnd.TheVariants.{Over, Fault, Memory as WantsMemory}
use Rattle.serve_run.specs.declared.end.ServeEnd.TheVariants.{Closed, NoWorkers, Worked}
use Rattle.desk_run.specs.declared.end.DeskEnd.{DeskEnd}
use Rattle.desk_run.specs.declared.end.DeskEnd.TheVariants.{NotStarted, Served}
use Rattle.book_commands.specs.BookFile as file
use Rattle.book_commands.specs.BookFile.{RepliesToFile, IsKeptBackStatus}
use Rattle.book_commands.specs.Due.{Due, answer, source_fault, file_fault, no_memory}
use Rattle.book_commands.specs.Ends.{IsSampleStatus}
use Rattle.book_commands.specs.RunReply.{RunReply, usage_reply, memory_reply, read_fault_reply}
use Rattle.command_words.specs.Size.{Size}
use Rattle.book_commands.specs.Tells.{Outputs, IsTold, outputs, Tells}
use Rattle.command_words.specs.declared.task.BookCommand.{BookCommand}
use Rattle.book_commands.specs.declared.object.Object.TheVariants.{Source}
use Rattle.book_commands.specs.declared.run_status.RunStatus.{RunStatus}
use Rattle.book_commands.specs.declared.run_status.RunStatus.TheVariants as statuses
use Rattle.book_commands.specs.Promises.{promise_of}
use Rattle.book_commands.proofs.BookFileLaws.{content_kind}
use Rattle.book_commands.proofs.Promises.{lawful}
use Rattle.book_commands.proofs.Statuses.{sample-kind}
use Rattle.book_commands.proofs.Told.{IsFailed, Ends-of_tells}
use Rattle.commands.specs.DeskEnds.{RunsDesk, start_reply}
use Rattle.commands.specs.Outside.{Outside}
use Rattle.commands.specs.Impacted.{ImpactEnd, kept_back, judged_by, ImpactsBy, IsImpactStatus, JudgesByFile, RunsImpact}
use Rattle.commands.specs.Rejudged.{RejudgeEnd, unjudged, judged, JudgesBy, RepliesToRejudge, RunsRejudge}
use Rattle.command_words.specs.Impact.{Impact as ImpactWords}
use Rattle.command_words.specs.Rejudging.{Rejudging}
use Rattle.command_words.specs.Service.{Service}
use Rattle.commands.specs.Serves.{ServiceEnd, unstarted, served, ServesBy, RunsService}
use Rattle.commands.specs.Causes.{IsDeskStatus, IsServiceStatus, IsRejudgeStatus, IsUsageStatus, IsCaused, by_words, by_inputs, by_sink, by_memory, by_reply, by_sample, by_desk, by_door, by_service, by_rejudge, by_impact}
use Rattle.commands.specs.Does.{AnswersBook, AnswersSample, AnswersUsage, DoesTask, Does}
use Rattle.command_words.specs.Meaning.{Asks, AsksNothing}
use Rattle.command_words.specs.declared.task.Task.{Task}
use Rattle.command_words.specs.declared.task.Task.TheVariants.{Book, Desk, Serve, Rejudge, Impact, Sample}
use Rattle.commands.proofs.DeskTold.{Ran, ToldFrom, same_count, start_status}
use Rattle.commands.proofs.Rejudges.{reply_status}
use Rattle.command_words.proofs.Meanings.{asked_or_nothing}

-- a command that was answered
by_told : (words : Words) (command : BookCommand) (before after : Outside) (status : RunStatus) (reply : RunReply) → Asks words (Book command)
    → Due command before.reads after.reads reply → IsTold reply before.writes after.writes status → IsCaused words before after status
by_told words command before after status reply asked (answer input read replies) told = by_reply (record {
  command = command;
  input = input;
  reply = reply;
  asked = asked;
  read = read;
  replies = replies;
  told = told;
  statuses = subst (promise_of command).is_status (sym told.ends) ((lawful command).statuses input before.reads.files after.reads.files reply replies);
})
by_told words command before after status reply asked (source_fault fails same is) told = by_inputs (told.ends ∙ ap (λ (r : RunReply). r.status) is) (inl fails.fault)
by_told words command before after status reply asked (file_fault input read fails is) told = by_inputs (told.ends ∙ ap (λ (r : RunReply). r.status) is) (inr ((lawful command).file_rose input before.reads.files after.reads.files fails))
by_told words command before after status reply asked (no_memory front is) told = by_memory (told.ends ∙ ap (λ (r : RunReply). r.status) is)

of_book : (words : Words) (command : BookCommand) (before after : Outside) (status : RunStatus) → Asks words (Book command)
    → AnswersBook command before after status → IsCaused words before after status
of_book words command before after status asked h = elim (Ends-of_tells h.reply before.writes after.writes status h.told) [
  | inl told ↦ by_told words command before after status h.reply asked h.due told
  | inr failed ↦ elim failed [ inl sink ↦ by_sink sink.ends sink.rose | inr nine ↦ by_memory nine ]
]

of_sample : (words : Words) (size : Size) (before after : Outside) (status : RunStatus) → Asks words (Sample size)
    → AnswersSample size before after status → IsCaused words before after status
of_sample words size before after status asked h = elim (Ends-of_tells h.tells.reply before.writes after.writes status h.tells.told) [
  | inl told ↦ elim h.tells.due [
    | inl replies ↦ by_sample (record {
      size = size;
      reply = h.tells.reply;
      asked = asked;
      replies = replies;
      told = told;
      statuses = subst IsSampleStatus (sym told.ends) (sample-kind size h.tells.reply replies);
    })
    | inr is ↦ by_memory (told.ends ∙ ap (λ (r : RunReply). r.status) is)
  ]
  | inr failed ↦ elim failed [ inl sink ↦ by_sink sink.ends sink.rose | inr nine ↦ by_memory nine ]
]

-- the sink failed, or memory was wanting, when a desk's end was told
desk_failed : (words : Words) (before after : Outside) (middle : SinkTold) (status : RunStatus) → middle.faults ≡ before.writes.sink.faults
    → IsFailed (outputs middle before.writes.log) after.writes status ⊎ (status ≡ statuses.WantOfMemory) → IsCaused words before after status
desk_failed words before after middle status same failed = elim failed [
  | inl sink ↦ by_sink sink.ends (subst (λ (n : ℕ). Rose n after.writes.sink.faults) same sink.rose)
  | inr nine ↦ by_memory nine
]

-- a desk's run, by how it ended
by_end : (how : DeskEnd) (words : Words) (store : List ℕ) (before after : Outside) (status : RunStatus) → Asks words (Desk store)
    → (h : RunsDesk before after status) → h.how ≡ how → Ran how before after h.middle → ToldFrom how before after h.middle status
    → IsCaused words before after status
by_end (Served Done) words store before after status asked h e run told =
    by_desk (record { store = store; asked = asked; runs = h; statuses = subst (λ (k : DeskEnd). IsDeskStatus k status) (sym e) told.ends })
by_end (Served Broken) words store before after status asked h e run told =
    by_desk (record { store = store; asked = asked; runs = h; statuses = subst (λ (k : DeskEnd). IsDeskStatus k status) (sym e) told.ends })
by_end (Served (ReadFault fault)) words store before after status asked h e run told =
    elim (Ends-of_tells (read_fault_reply Source fault.before fault.after) (outputs h.middle before.writes.log) after.writes status told) [
      | inl whole ↦ by_inputs whole.ends (inl run.served.dealt.session.counted.fails)
      | inr failed ↦ desk_failed words before after h.middle status run.served.dealt.session.written.count failed
    ]
by_end (Served (WriteFault fault)) words store before after status asked h e run told = elim told.notes [
  | inl noted ↦ by_sink noted.1 (subst (λ (s : SinkTold). Rose before.writes.sink.faults s.faults) (sym told.sink) run.served.dealt.session.written.refused.rose)
  | inr unnoted ↦ by_memory unnoted.1
]
by_end (Served Memory) words store before after status asked h e run told = by_memory told.ends
by_end (NotStarted (RefusedStart fault)) words store before after status asked h e run told =
    elim (Ends-of_tells (start_reply fault) (outputs h.middle before.writes.log) after.writes status told) [
      | inl whole ↦ by_desk (record {
        store = store;
        asked = asked;
        runs = h;
        statuses = subst (λ (k : DeskEnd). IsDeskStatus k status) (sym e) (whole.ends ∙ start_status fault);
      })
      | inr failed ↦ desk_failed words before after h.middle status (same_count _ before after h.middle run) failed
    ]
by_end (NotStarted NoMemory) words store before after status asked h e run told =
    elim (Ends-of_tells memory_reply (outputs h.middle before.writes.log) after.writes status (inl told)) [
      | inl whole ↦ by_memory whole.ends
      | inr failed ↦ desk_failed words before after h.middle status (same_count _ before after h.middle run) failed
    ]

of_desk : (words : Words) (store : List ℕ) (before after : Outside) (status : RunStatus) → Asks words (Desk store)
    → RunsDesk before after status → IsCaused words before after status
of_desk words store before after status asked h = by_end h.how words store before after status asked h refl h.run h.told

-- a service whose end was told, or the sink failed, or memory was wanting
by_told_end : (words : Words) (reply : RunReply) (first : Outputs) (before after : Outside) (status : RunStatus) → first.sink ≡ before.writes.sink
    → Tells reply first after.writes status → (status ≡ reply.status → IsCaused words before after status) → IsCaused words before after status
by_told_end words reply first before after status same told caused = elim (Ends-of_tells reply first after.writes status told) [
  | inl whole ↦ caused whole.ends
  | inr failed ↦ elim failed [
    | inl sink ↦ by_sink sink.ends (subst (λ (s : SinkTold). Rose s.faults after.writes.sink.faults) same sink.rose)
    | inr nine ↦ by_memory nine
  ]
]

-- a service, by how it ended
by_service_end : (how : ServiceEnd) (words : Words) (service : Service) (before after : Outside) (status : RunStatus) → Asks words (Serve service)
    → (h : RunsService service before after status) → h.how ≡ how → ServesBy how service before after status → IsCaused words before after status
by_service_end (unstarted (RefusedStart fault)) words service before after status asked h e run =
    by_told_end words (start_reply fault) before.writes before after status refl run.told (λ ends. by_service (record {
      service = service;
      asked = asked;
      runs = h;
      statuses = subst (λ (k : ServiceEnd). IsServiceStatus k status) (sym e) (ends ∙ start_status fault);
    }))
by_service_end (unstarted NoMemory) words service before after status asked h e run =
    by_told_end words memory_reply before.writes before after status refl (inl run.told) by_memory
by_service_end (served (Worked Over)) words service before after status asked h e run =
    by_told_end words _ _ before after status refl run.serves.told (λ ends. by_service (record {
      service = service;
      asked = asked;
      runs = h;
      statuses = subst (λ (k : ServiceEnd). IsServiceStatus k status) (sym e) ends;
    }))
by_service_end (served (Worked Fault)) words service before after status asked h e run =
    by_told_end words _ _ before after status refl run.serves.told (λ ends. by_door ends (run.serves.run.cause refl))
by_service_end (served (Worked WantsMemory)) words service before after status asked h e run =
    by_told_end words memory_reply _ before after status refl run.serves.told by_memory
by_service_end (served NoWorkers) words service before after status asked h e run =
    by_told_end words memory_reply _ before after status refl run.serves.told by_memory
by_service_end (served (Closed out.Failed)) words service before after status asked h e run =
    by_told_end words _ _ before after status refl run.serves.told (λ ends. by_door ends (run.serves.run.2 refl))
by_service_end (served (Closed out.Memory)) words service before after status asked h e run =
    by_told_end words memory_reply _ before after status refl run.serves.told by_memory

of_service : (words : Words) (service : Service) (before after : Outside) (status : RunStatus) → Asks words (Serve service)
    → RunsService service before after status → IsCaused words before after status
of_service words service before after status asked h = by_service_end h.how words service before after status asked h refl h.runs

-- kept orders that were judged again, by how that ended
by_rejudge_end : (how : RejudgeEnd) (words : Words) (r : Rejudging) (before after : Outside) (status : RunStatus) → Asks words (Rejudge r)
    → (h : RunsRejudge r before after status) → h.how ≡ how → JudgesBy how (RepliesToRejudge r) before after status → IsCaused words before after status
by_rejudge_end (unjudged (RefusedStart fault)) words r before after status asked h e run =
    by_told_end words (start_reply fault) before.writes before after status refl run.told (λ ends. by_rejudge (record {
      rejudging = r;
      asked = asked;
      runs = h;
      statuses = subst (λ (k : RejudgeEnd). IsRejudgeStatus k status) (sym e) (ends ∙ start_status fault);
    }))
by_rejudge_end (unjudged NoMemory) words r before after status asked h e run =
    by_told_end words memory_reply before.writes before after status refl (inl run.told) by_memory
by_rejudge_end judged words r before after status asked h e run =
    by_told_end words run.judges.reply before.writes before after status refl run.judges.told (λ ends. elim run.judges.due [
      | inl replies ↦ by_rejudge (record {
        rejudging = r;
        asked = asked;
        runs = h;
        statuses = subst (λ (k : RejudgeEnd). IsRejudgeStatus k status) (sym e) (reply_status r run.old.tables run.judges.reply status replies ends);
      })
      | inr is ↦ by_memory (ends ∙ ap (λ (reply : RunReply). reply.status) is)
    ])

of_rejudge : (words : Words) (r : Rejudging) (before after : Outside) (status : RunStatus) → Asks words (Rejudge r)
    → RunsRejudge r before after status → IsCaused words before after status
of_rejudge words r before after status asked h = by_rejudge_end h.how words r before after status asked h refl h.runs

-- the book of a file was kept back
by_file_reply : (words : Words) (i : ImpactWords) (before after : Outside) (status : RunStatus) (reply : RunReply) → Asks words (Impact i)
    → (h : RunsImpact i before after status) → h.how ≡ kept_back → RepliesToFile i.file before.reads.files after.reads.files reply → status ≡ reply.status
    → IsCaused words before after status
by_file_reply words i before after status reply asked h e (file.unread fails is) ends = by_inputs (ends ∙ ap (λ (r : RunReply). r.status) is) (inr fails.rose)
by_file_reply words i before after status reply asked h e (file.kept_back content read count replies) ends = by_impact (record {
  impact = i;
  asked = asked;
  runs = h;
  statuses = subst (λ (k : ImpactEnd). IsImpactStatus k status) (sym e) (subst IsKeptBackStatus (sym ends) (content_kind content reply replies));
})
by_file_reply words i before after status reply asked h e (file.no_memory is) ends = by_memory (ends ∙ ap (λ (r : RunReply). r.status) is)

-- kept orders that were judged by the book of a file, by how that ended
by_file_end : (how : RejudgeEnd) (words : Words) (i : ImpactWords) (before after : Outside) (status : RunStatus) → Asks words (Impact i)
    → (h : RunsImpact i before after status) → h.how ≡ judged_by how → JudgesByFile how i before after status → IsCaused words before after status
by_file_end (unjudged (RefusedStart fault)) words i before after status asked h e run =
    by_told_end words (start_reply fault) before.writes before after status refl run.runs.told (λ ends. by_impact (record {
      impact = i;
      asked = asked;
      runs = h;
      statuses = subst (λ (k : ImpactEnd). IsImpactStatus k status) (sym e) (ends ∙ start_status fault);
    }))
by_file_end (unjudged NoMemory) words i before after status asked h e run =
    by_told_end words memory_reply before.writes before after status refl (inl run.runs.told) by_memory
by_file_end judged words i before after status asked h e run =
    by_told_end words run.runs.judges.reply before.writes before after status refl run.runs.judges.told (λ ends. elim run.runs.judges.due [
      | inl replies ↦ by_impact (record {
        impact = i;
        asked = asked;
        runs = h;
        statuses = subst (λ (k : ImpactEnd). IsImpactStatus k status) (sym e) (ends ∙ ap (λ (r : RunReply). r.status) replies.is);
      })
      | inr is ↦ by_memory (ends ∙ ap (λ (reply : RunReply). reply.status) is)
    ])

by_impact_end : (how : ImpactEnd) (words : Words) (i : ImpactWords) (before after : Outside) (status : RunStatus) → Asks words (Impact i)
    → (h : RunsImpact i before after status) → h.how ≡ how → ImpactsBy how i before after status → IsCaused words before after status
by_impact_end kept_back words i before after status asked h e run =
    by_told_end words run.reply before.writes before after status refl run.told (λ ends. by_file_reply words i before after status run.reply asked h e run.due ends)
by_impact_end (judged_by how) words i before after status asked h e run = by_file_end how words i before after status asked h e run

of_impact : (words : Words) (i : ImpactWords) (before after : Outside) (status : RunStatus) → Asks words (Impact i)
    → RunsImpact i before after status → IsCaused words before after status
of_impact words i before after status asked h = by_impact_end h.how words i before after status asked h refl h.runs

of_usage : (words : Words) (before after : Outside) (status : RunStatus) → AsksNothing words
    → AnswersUsage before after status → IsCaused words before after status
of_usage words before after status none h = elim (Ends-of_tells usage_reply before.writes after.writes status h.told) [
  | inl told ↦ by_words told.ends none
  | inr failed ↦ elim failed [ inl sink ↦ by_sink sink.ends sink.rose | inr nine ↦ by_memory nine ]
]

of_task : (words : Words) (task : Task) (before after : Outside) (status : RunStatus) → Asks words task
    → DoesTask task before after status → IsCaused words before after status
of_task words (Book command) before after status asked h = of_book words command before after status asked h
of_task words (Desk store) before after status asked h = of_desk words store before after status asked h
of_task words (Serve service) before after status asked h = of_service words service before after status asked h
of_task words (Rejudge r) before after status asked h = of_rejudge words r before after status asked h
of_task words (Impact i) before after status asked h = of_impact words i before after status asked h
of_task words (Sample size) before after status asked h = of_sample words size before after status asked h

pub Does-caused : (words : Words) (before after : Outside) (status : RunStatus) → Does words before after status → IsCaused words before after status
Does-caused words before after status h = elim (asked_or_nothing words) [
  | inl a ↦ of_task words a.task before after status a.asks (h.asked a.task a.asks)
  | inr none ↦ of_usage words before after status none (h.nothing none)
]

usage_status : (before after : Outside) (status : RunStatus) → AnswersUsage before after status → IsUsageStatus status
usage_status before after status h = elim (Ends-of_tells usage_reply before.writes after.writes status h.told) [
  | inl told ↦ inl told.ends
  | inr failed ↦ elim failed [ inl sink ↦ inr (inl sink.ends) | inr nine ↦ inr (inr nine) ]
]

pub Does-usage : (words : Words) (before after : Outside) (status : RunStatus) → Does words before after status → AsksNothing words
    → IsUsageStatus status
Does-usage words before after status h none = usage_status before after status (h.nothing none)
