-- What was asked was done.
use Rattle.std.proofs.Common.{◌≡◌, refl, sym, subst, inl, inr, arith}
use Rattle.command_words.specs.Parts.{Words}
use Rattle.pb_base.specs.declared.answer.Fail.TheVariants as fails
use Rattle.desk_run.specs.declared.end.DeskEnd.TheVariants.{NotStarted}
use Rattle.book_commands.specs.BookFile as file
use Rattle.book_commands.specs.Due.{no_memory}
use Rattle.book_commands.specs.Inputs.{Inputs}
use Rattle.book_commands.specs.RunReply.{memory_reply}
use Rattle.book_commands.specs.Tells.{Outputs, IsWritten}
use Rattle.book_commands.proofs.DueLaws.{LosesFront-none}
use Rattle.book_commands.proofs.Promises.{lawful}
use Rattle.book_commands.specs.declared.run_status.RunStatus.{RunStatus}
use Rattle.commands.specs.Outside.{KeeperTold, DoorSaid, Outside}
use Rattle.commands.specs.Impacted.{kept_back}
use Rattle.commands.specs.Rejudged.{unjudged}
use Rattle.commands.specs.Serves.{unstarted}
use Rattle.commands.specs.Does.{AnswersMemory, AnswersUsage, DoesTask, Does, ReadsNothing}
use Rattle.command_words.specs.Meaning.{Asks, AsksNothing}
use Rattle.command_words.specs.declared.task.Task.{Task}
use Rattle.command_words.specs.declared.task.Task.TheVariants.{Book, Desk, Serve, Rejudge, Impact, Sample}
use Rattle.command_words.proofs.Meanings.{one_task}

pub Does-of_task : (words : Words) (task : Task) (before after : Outside) (status : RunStatus) → Asks words task
    → DoesTask task before after status → Does words before after status
Does-of_task words task before after status asks h = record {
  asked = λ other asked. subst (λ (t : Task). DoesTask t before after status) (one_task words task other asks asked) h;
  nothing = λ none. absurd (none task asks);
}

pub Does-of_usage : (words : Words) (before after : Outside) (status : RunStatus) → AsksNothing words
    → AnswersUsage before after status → Does words before after status
Does-of_usage words before after status none h = record { asked = λ task asks. absurd (none task asks); nothing = λ _. h }

-- memory was wanting before anything was read
wanting : (task : Task) (reads : Inputs) (kept : KeeperTold) (door : DoorSaid) (writes writes' : Outputs) (status : RunStatus) → IsWritten memory_reply writes writes' status
    → DoesTask task (record { reads = reads; writes = writes; keeper = kept; door = door }) (record { reads = reads; writes = writes'; keeper = kept; door = door }) status
wanting (Book command) reads kept door writes writes' status h = record {
  reply = memory_reply;
  due = no_memory (LosesFront-none reads.source.left) refl;
  told = inl h;
  source_later = record { never_falls = omega arith; kept = λ k. k };
  files_kept = (lawful command).same_files reads.files;
  kept = refl;
  door = refl;
}
wanting (Desk store) reads kept door writes writes' status h = record {
  how = NotStarted fails.Memory;
  middle = writes.sink;
  run = record { cause = tt; left = inl refl; link = refl; later = record { never_falls = omega arith; kept = λ k. k } };
  told = h;
  files = refl;
  door = refl;
}
wanting (Serve service) reads kept door writes writes' status h = record {
  how = unstarted fails.Memory;
  runs = record {
    run = record { cause = tt; left = inl refl; link = refl; later = record { never_falls = omega arith; kept = λ k. k } };
    told = h;
    untouched = refl;
    door = refl;
  };
}
wanting (Rejudge r) reads kept door writes writes' status h = record {
  how = unjudged fails.Memory;
  runs = record {
    run = record { cause = tt; left = inl refl; link = refl; later = record { never_falls = omega arith; kept = λ k. k } };
    told = h;
    untouched = refl;
    door = refl;
  };
}
wanting (Impact i) reads kept door writes writes' status h = record {
  how = kept_back;
  runs = record {
    reply = memory_reply;
    due = file.no_memory refl;
    told = inl h;
    files_kept = record { same = refl; later = record { never_falls = omega arith; kept = λ k. k } };
    source = refl;
    kept = refl;
    door = refl;
  };
}
wanting (Sample size) reads kept door writes writes' status h =
    record { tells = record { reply = memory_reply; due = inr refl; told = inl h }; nothing = record { untouched = refl; kept = refl; door = refl } }

same_outside : (before after : Outside) → ReadsNothing before after
    → after ≡ record { reads = before.reads; writes = after.writes; keeper = before.keeper; door = before.door }
same_outside before after h = λ i. record { reads = h.untouched i; writes = after.writes; keeper = h.kept i; door = h.door i }

wants : (task : Task) (before after : Outside) (status : RunStatus) → AnswersMemory before after status → DoesTask task before after status
wants task before after status h =
    subst (λ (o : Outside). DoesTask task before o status) (sym (same_outside before after h.nothing))
    (wanting task before.reads before.keeper before.door before.writes after.writes status h.told)

pub Does-of_memory : (words : Words) (before after : Outside) (status : RunStatus) → AnswersMemory before after status → Does words before after status
Does-of_memory words before after status h = record {
  asked = λ task _. wants task before after status h;
  nothing = λ _. record { told = inr h.told; nothing = h.nothing };
}
