-- A run that says that a book can be released, or that it can't, is right.
use Rattle.std.proofs.Common.{◌≡◌, ◌∙◌, ℕ, List, Option, None, Some, sym, subst, inl, inr}
use Rattle.std.specs.Prelude.{◌⊎◌, IsOkAnd, IfSome, IsTrue, take}
use Rattle.book_model.specs.Contents.{Contents}
use Rattle.book_model.specs.Sound.{IsReleasable}
use Rattle.book_text.specs.BookText.{book_of}
use Rattle.pb_outside.specs.Source.{ReadsUpTo}
use Rattle.command_words.specs.Parts.{Words}
use Rattle.book_commands.specs.Checks.{IsUnreleasable}
use Rattle.book_commands.specs.Inputs.{input_limit}
use Rattle.book_commands.specs.Promises.{promise_of}
use Rattle.command_words.specs.declared.task.BookCommand.{BookCommand}
use Rattle.book_commands.specs.declared.run_status.RunStatus.{RunStatus}
use Rattle.book_commands.specs.declared.run_status.RunStatus.TheVariants as statuses
use Rattle.book_commands.proofs.Promises.{lawful}
use Rattle.commands.specs.Outside.{Outside}
use Rattle.commands.specs.Causes.{GivesReply, IsCaused, by_words, by_inputs, by_sink, by_memory, by_reply, by_sample, by_desk, by_door, by_service, by_rejudge, by_impact}
use Rattle.commands.specs.Released.{AskRelease, AskCheck, IsReleasableInput, IsBlockedInput}
use Rattle.command_words.specs.Meaning.{Asks}
use Rattle.command_words.specs.declared.task.Task.TheVariants.{Book, Desk, Serve, Rejudge, Impact, Sample}
use Rattle.command_words.proofs.Meanings.{one_task}

of_input : (IsRight : Contents → Type 0) (left left' : Option (List ℕ)) (input : List ℕ) → ReadsUpTo input_limit left left' input
    → IsOkAnd (book_of input) IsRight → IfSome left (λ all. IsOkAnd (book_of (take input_limit all)) IsRight)
of_input IsRight None left' input read h = tt
of_input IsRight (Some all) left' input read h = subst (λ (i : List ℕ). IsOkAnd (book_of i) IsRight) read.0 h

pub same_command : (c c' : BookCommand) → Book c ≡ Book c' → c ≡ c'
same_command c c' e = cc

-- a reply that says done, or refused
done_reply : (words : Words) (before after : Outside) (status : RunStatus) → status ≡ statuses.Done → AskRelease words
    → GivesReply words before after status → IsReleasableInput before.reads.source.left
done_reply words before after status done asks h =
    let same : asks.command ≡ h.command = same_command asks.command h.command (one_task words (Book asks.command) (Book h.command) asks.asked h.asked) in
    of_input IsReleasable before.reads.source.left after.reads.source.left h.input h.read.text
    ((lawful h.command).releasable h.input before.reads.files after.reads.files h.reply
    (subst (λ (c : BookCommand). IsTrue (promise_of c).tells_release) same asks.whether) h.replies (sym done ∙ h.told.ends))

refused_reply : (words : Words) (before after : Outside) (status : RunStatus) → status ≡ statuses.Refused → AskCheck words
    → GivesReply words before after status → IsBlockedInput before.reads.source.left
refused_reply words before after status refused asks h =
    let same : asks.command ≡ h.command = same_command asks.command h.command (one_task words (Book asks.command) (Book h.command) asks.asked h.asked) in
    of_input IsUnreleasable before.reads.source.left after.reads.source.left h.input h.read.text
    ((lawful h.command).unreleasable h.input before.reads.files after.reads.files h.reply
    (subst (λ (c : BookCommand). IsTrue (promise_of c).tells_refusal) same asks.what) h.replies (sym refused ∙ h.told.ends))

-- words that ask of a book have no other cause of such a status than the reply
by_reply_alone : (words : Words) (command : BookCommand) (before after : Outside) (status : RunStatus) (P : Type 0) → Asks words (Book command)
    → (status ≡ statuses.Done) ⊎ (status ≡ statuses.Refused) → (GivesReply words before after status → P) → IsCaused words before after status → P
by_reply_alone words command before after status P asked decided shown (by_words two none) = absurd (none (Book command) asked)
by_reply_alone words command before after status P asked decided shown (by_inputs four fails) =
    elim decided [
      | inl done ↦ let clash : statuses.Done ≡ statuses.ReadFault = sym done ∙ four in cc
      | inr refused ↦ let clash : statuses.Refused ≡ statuses.ReadFault = sym refused ∙ four in cc
    ]
by_reply_alone words command before after status P asked decided shown (by_sink five rose) =
    elim decided [
      | inl done ↦ let clash : statuses.Done ≡ statuses.WriteFault = sym done ∙ five in cc
      | inr refused ↦ let clash : statuses.Refused ≡ statuses.WriteFault = sym refused ∙ five in cc
    ]
by_reply_alone words command before after status P asked decided shown (by_memory nine) =
    elim decided [
      | inl done ↦ let clash : statuses.Done ≡ statuses.WantOfMemory = sym done ∙ nine in cc
      | inr refused ↦ let clash : statuses.Refused ≡ statuses.WantOfMemory = sym refused ∙ nine in cc
    ]
by_reply_alone words command before after status P asked decided shown (by_reply h) = shown h
by_reply_alone words command before after status P asked decided shown (by_sample h) =
    let clash : Book command ≡ Sample h.size = one_task words (Book command) (Sample h.size) asked h.asked in cc
by_reply_alone words command before after status P asked decided shown (by_desk h) =
    let clash : Book command ≡ Desk h.store = one_task words (Book command) (Desk h.store) asked h.asked in cc
by_reply_alone words command before after status P asked decided shown (by_door ten rose) =
    elim decided [
      | inl done ↦ let clash : statuses.Done ≡ statuses.DoorFault = sym done ∙ ten in cc
      | inr refused ↦ let clash : statuses.Refused ≡ statuses.DoorFault = sym refused ∙ ten in cc
    ]
by_reply_alone words command before after status P asked decided shown (by_service h) =
    let clash : Book command ≡ Serve h.service = one_task words (Book command) (Serve h.service) asked h.asked in cc
by_reply_alone words command before after status P asked decided shown (by_rejudge h) =
    let clash : Book command ≡ Rejudge h.rejudging = one_task words (Book command) (Rejudge h.rejudging) asked h.asked in cc
by_reply_alone words command before after status P asked decided shown (by_impact h) =
    let clash : Book command ≡ Impact h.impact = one_task words (Book command) (Impact h.impact) asked h.asked in cc

pub IsCaused-released : (words : Words) (before after : Outside) (status : RunStatus) → IsCaused words before after status
    → status ≡ statuses.Done → AskRelease words → IsReleasableInput before.reads.source.left
IsCaused-released words before after status h done asks =
    by_reply_alone words asks.command before after status (IsReleasableInput before.reads.source.left) asks.asked (inl done)
    (done_reply words before after status done asks) h

pub IsCaused-blocked : (words : Words) (before after : Outside) (status : RunStatus) → IsCaused words before after status
    → status ≡ statuses.Refused → AskCheck words → IsBlockedInput before.reads.source.left
IsCaused-blocked words before after status h refused asks =
    by_reply_alone words asks.command before after status (IsBlockedInput before.reads.source.left) asks.asked (inr refused)
    (refused_reply words before after status refused asks) h
