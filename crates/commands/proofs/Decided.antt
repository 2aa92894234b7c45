-- An ample budget leaves nothing.
use Rattle.std.proofs.Common.{◌≡◌, ◌∙◌, ℕ, List, Option, None, Some, sym, subst}
use Rattle.std.specs.Prelude.{IsSomeAnd, take}
use Rattle.command_words.specs.Parts.{Words}
use Rattle.pb_outside.specs.Files.{NamedBytes}
use Rattle.pb_outside.specs.Source.{ReadsUpTo}
use Rattle.book_commands.specs.Ends.{LeavesNothing}
use Rattle.book_commands.specs.Inputs.{input_limit}
use Rattle.book_commands.specs.Promises.{promise_of}
use Rattle.book_commands.specs.declared.run_status.RunStatus.{RunStatus}
use Rattle.book_commands.specs.declared.run_status.RunStatus.TheVariants as statuses
use Rattle.book_commands.proofs.Nothing.{sample_decided}
use Rattle.book_commands.proofs.Promises.{lawful}
use Rattle.commands.specs.Ample.{AskAmple, IsAmpleTask}
use Rattle.commands.specs.Causes.{GivesReply, GivesSample, IsCaused, by_words, by_inputs, by_sink, by_memory, by_reply, by_sample, by_desk, by_door, by_service, by_rejudge, by_impact}
use Rattle.commands.specs.Outside.{Outside}
use Rattle.command_words.specs.declared.task.Task.{Task}
use Rattle.command_words.specs.declared.task.Task.TheVariants.{Book, Desk, Serve, Rejudge, Impact, Sample}
use Rattle.command_words.proofs.Meanings.{one_task}

-- the input that was read is the one that was given
read_ample : (IsAmple : List ℕ → Option (List NamedBytes) → Type 0) (files : Option (List NamedBytes)) (left left' : Option (List ℕ)) (input : List ℕ)
    → IsSomeAnd left (λ all. IsAmple (take input_limit all) files) → ReadsUpTo input_limit left left' input → IsAmple input files
read_ample IsAmple files None left' input given read = absurd given
read_ample IsAmple files (Some all) left' input given read = subst (λ (i : List ℕ). IsAmple i files) (sym read.0) given

-- what is said of the task that the words ask for
of_task : (words : Words) (before : Outside) (task : Task) (asks : AskAmple words before) → task ≡ asks.task → IsAmpleTask task before
of_task words before task asks same = subst (λ (t : Task). IsAmpleTask t before) (sym same) asks.ample

pub reply_nothing : (words : Words) (before after : Outside) (status : RunStatus) → AskAmple words before → (h : GivesReply words before after status)
    → LeavesNothing h.reply
reply_nothing words before after status asks h =
    let ample : IsAmpleTask (Book h.command) before =
    of_task words before (Book h.command) asks (one_task words (Book h.command) asks.task h.asked asks.asked) in
    (lawful h.command).leaves_nothing h.input before.reads.files after.reads.files h.reply
    (read_ample (promise_of h.command).is_ample before.reads.files.files before.reads.source.left after.reads.source.left h.input ample h.read.text)
    h.replies

reply_decided : (words : Words) (before after : Outside) (status : RunStatus) → AskAmple words before → GivesReply words before after status
    → status ≡ statuses.Undecided → ⊥
reply_decided words before after status asks h left = (reply_nothing words before after status asks h).decided (sym h.told.ends ∙ left)

sample_told : (words : Words) (before after : Outside) (status : RunStatus) → AskAmple words before → GivesSample words before after status
    → status ≡ statuses.Undecided → ⊥
sample_told words before after status asks h left =
    let ample : IsAmpleTask (Sample h.size) before =
    of_task words before (Sample h.size) asks (one_task words (Sample h.size) asks.task h.asked asks.asked) in
    sample_decided h.size h.reply ample h.replies (sym h.told.ends ∙ left)

pub IsCaused-decided : (words : Words) (before after : Outside) (status : RunStatus) → IsCaused words before after status → AskAmple words before
    → status ≡ statuses.Undecided → ⊥
IsCaused-decided words before after status (by_words two none) asks left = absurd (none asks.task asks.asked)
IsCaused-decided words before after status (by_inputs four fails) asks left = let clash : statuses.Undecided ≡ statuses.ReadFault = sym left ∙ four in cc
IsCaused-decided words before after status (by_sink five rose) asks left = let clash : statuses.Undecided ≡ statuses.WriteFault = sym left ∙ five in cc
IsCaused-decided words before after status (by_memory nine) asks left = let clash : statuses.Undecided ≡ statuses.WantOfMemory = sym left ∙ nine in cc
IsCaused-decided words before after status (by_reply h) asks left = reply_decided words before after status asks h left
IsCaused-decided words before after status (by_sample h) asks left = sample_told words before after status asks h left
IsCaused-decided words before after status (by_desk h) asks left = of_task words before (Desk h.store) asks (one_task words (Desk h.store) asks.task h.asked asks.asked)
IsCaused-decided words before after status (by_door ten rose) asks left = let clash : statuses.Undecided ≡ statuses.DoorFault = sym left ∙ ten in cc
IsCaused-decided words before after status (by_service h) asks left = of_task words before (Serve h.service) asks (one_task words (Serve h.service) asks.task h.asked asks.asked)
IsCaused-decided words before after status (by_rejudge h) asks left = of_task words before (Rejudge h.rejudging) asks (one_task words (Rejudge h.rejudging) asks.task h.asked asks.asked)
IsCaused-decided words before after status (by_impact h) asks left = of_task words before (Impact h.impact) asks (one_task words (Impact h.impact) asks.task h.asked asks.asked)
