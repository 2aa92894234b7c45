-- What check and proof leave is open in its slice.
use Rattle.std.proofs.Common.{◌≡◌, ◌∙◌, ℕ, suc, ◌+◌, ◌-◌, ◌<◌, List, [], ◌∷◌, ◌++◌, Option, Some, Result, Ok, Err, sym, ap, subst, arith}
use Rattle.std.specs.Prelude.{IfOk, IsSomeAnd, slice_get}
use Rattle.std.specs.List.{AllByRecursion}
use Rattle.pb_base.specs.InParts.{InParts}
use Rattle.book_model.specs.Contents.{Contents}
use Rattle.book_model.specs.Slices.{all_slices}
use Rattle.book_model.specs.declared.record.Slice.{Slice}
use Rattle.book_model.specs.declared.slicing.LimitFault.{LimitFault}
use Rattle.book_text.specs.BookText.{book_of}
use Rattle.book_text.specs.declared.fault.BookFault.{BookFault}
use Rattle.command_words.specs.declared.task.BookCommand.{BookCommand}
use Rattle.command_words.specs.declared.task.BookCommand.TheVariants.{Order, Check, Prove, Verify, Supplements, Compare, Free, Why, Ask, Days as OnDays, Require, Changes}
use Rattle.derivation.proofs.LimitLaws.{slices_are_all, slices_from_within}
use Rattle.derivation.specs.Limits.{slices_within}
use Rattle.findings.specs.Left.{IsOpen, IsLeftOpen, SliceLeavesOpen}
use Rattle.findings.specs.Notes.{Inquiry, IsReport, verdict_of}
use Rattle.findings.specs.declared.report.Ask.TheVariants.{All, Blocking}
use Rattle.findings.specs.declared.report.Note.{Note as Told}
use Rattle.findings.specs.declared.report.Note.TheVariants.{Days, Finding, Undecided}
use Rattle.findings.specs.declared.report.Verdict.{Verdict}
use Rattle.findings.specs.declared.report.Verdict.TheVariants as verdicts
use Rattle.findings.proofs.LeftLaws.{report_open}
use Rattle.pb_outside.specs.Files.{FilesTold}
use Rattle.book_commands.specs.Checks.{IsReported, IsProvedBy, IsProved, RepliesWithin, inquiry, RepliesToCheck, RepliesToProof}
use Rattle.book_commands.specs.Logged.{logged_behind}
use Rattle.book_commands.specs.Open.{IsOpenNote, AreOpenNotes, TellsOpen}
use Rattle.book_commands.specs.Promises.{promise_of}
use Rattle.book_commands.specs.RunReply.{RunReply, report_reply}
use Rattle.book_commands.specs.declared.log.Note.{Note}

-- the log of notes behind the days of a slice, which is the last of so many
own_open : (i : Inquiry) (k : ℕ) (s : Slice) (own later : List Told) → slice_get (all_slices i.book) k ≡ Some s → AllByRecursion (IsLeftOpen i s) own
    → AllByRecursion (IsOpenNote i) (logged_behind (k + 1) later) → AllByRecursion (IsOpenNote i) (logged_behind (k + 1) (own ++ later))
own_open i k s [] later there h rest = rest
own_open i k s (Days first last ∷ own) later there h rest = absurd h.0
own_open i k s (Finding question set ∷ own) later there h rest = (tt, own_open i k s own later there h.1 rest)
own_open i k s (Undecided question learnt ∷ own) later there h rest =
    let place : k + 1 - 1 ≡ k = omega arith in
    let its : slice_get (all_slices i.book) (k + 1 - 1) ≡ Some s = ap (slice_get (all_slices i.book)) place ∙ there in (
      subst (λ (o : Option Slice). IsSomeAnd o (λ t. IsOpen i t question)) (sym its) h.0,
      own_open i k s own later there h.1 rest,
    )

slice_open : (i : Inquiry) (k : ℕ) (s : Slice) (notes later : List Told) → slice_get (all_slices i.book) k ≡ Some s → SliceLeavesOpen i s notes
    → AllByRecursion (IsOpenNote i) (logged_behind (k + 1) later) → AllByRecursion (IsOpenNote i) (logged_behind k (notes ++ later))
slice_open i k s [] later there h rest = absurd h
slice_open i k s (note ∷ notes) later there h rest =
    subst (λ (n : Told). AllByRecursion (IsOpenNote i) (logged_behind k (n ∷ (notes ++ later)))) (sym h.0) (own_open i k s notes later there h.1 rest)

-- the slices from the place k on
slices_open : (i : Inquiry) (k : ℕ) (slices : List Slice) (notes : List Told) → ((n : ℕ) → slice_get slices n ≡ slice_get (all_slices i.book) (k + n))
    → InParts (SliceLeavesOpen i) slices notes → AllByRecursion (IsOpenNote i) (logged_behind k notes)
slices_open i k [] notes same h = subst (λ (ns : List Told). AllByRecursion (IsOpenNote i) (logged_behind k ns)) (sym h) tt
slices_open i k (s ∷ slices) notes same h =
    let first : k ≡ k + 0 = omega arith in
    let there : slice_get (all_slices i.book) k ≡ Some s = ap (slice_get (all_slices i.book)) first ∙ sym (same 0) in
    let rest = slices_open i (k + 1) slices h.1 (λ n. same (suc n) ∙ ap (slice_get (all_slices i.book)) (next k n)) h.4 in
    subst (λ (ns : List Told). AllByRecursion (IsOpenNote i) (logged_behind k ns)) (sym h.2) (slice_open i k s h.0 h.1 there h.3 rest)
  where
    next : (k n : ℕ) → k + suc n ≡ k + 1 + n
    next k n = omega arith

from_zero : (n : ℕ) → n ≡ 0 + n
from_zero n = omega arith

report_logged : (i : Inquiry) (report : List Told) → IsReport i report → 0 < i.budget → AllByRecursion (IsOpenNote i) (logged_behind 0 report)
report_logged i report is some =
    let h = report_open i report some is in
    let all : all_slices i.book ≡ h.slices = slices_are_all i.book h.slices (slices_from_within i.book h.slices h.within) in
    slices_open i 0 h.slices report (λ n. ap (λ (ss : List Slice). slice_get ss n) (sym all) ∙ ap (slice_get (all_slices i.book)) (from_zero n)) h.each

report_told : (i : Inquiry) (report : List Told) (reply : RunReply) → IsReport i report → reply ≡ report_reply i.book report → AreOpenNotes i reply
report_told i report reply is e some = subst (λ (r : RunReply). AllByRecursion (IsOpenNote i) r.notes) (sym e) (report_logged i report is some)

within_open : (limits : Result (List Slice) LimitFault) (i : Inquiry) (IsAnswer : RunReply → Type 0) (reply : RunReply)
    → ((r : RunReply) → IsAnswer r → AreOpenNotes i r) → RepliesWithin limits IsAnswer reply → AreOpenNotes i reply
within_open (Ok slices) i IsAnswer reply answered h = answered reply h
within_open (Err fault) i IsAnswer reply answered h = λ some. subst (λ (r : RunReply). AllByRecursion (IsOpenNote i) r.notes) (sym h) (tt, tt)

check_open : (book : Result Contents BookFault) (budget workers : ℕ) (reply : RunReply) → RepliesToCheck book budget reply
    → IfOk book (λ b. TellsOpen (Check budget workers) b reply)
check_open (Ok b) budget workers reply h =
    within_open (slices_within b) (inquiry All budget b) (IsReported (inquiry All budget b)) reply
    (λ r is. report_told (inquiry All budget b) is.report r is.is_right is.answer) h
check_open (Err fault) budget workers reply h = tt

proved_open : (verdict : Verdict) (i : Inquiry) (report : List Told) (reply : RunReply) → IsReport i report → IsProvedBy verdict i.book report reply → AreOpenNotes i reply
proved_open verdicts.Releasable i report reply is h some = subst (λ (r : RunReply). AllByRecursion (IsOpenNote i) r.notes) (sym h.answer) tt
proved_open verdicts.Blocked i report reply is h some = report_told i report reply is h some
proved_open verdicts.Undecided i report reply is h some = report_told i report reply is h some

proof_open : (book : Result Contents BookFault) (budget workers : ℕ) (reply : RunReply) → RepliesToProof book budget reply
    → IfOk book (λ b. TellsOpen (Prove budget workers) b reply)
proof_open (Ok b) budget workers reply h =
    within_open (slices_within b) (inquiry Blocking budget b) (IsProved (inquiry Blocking budget b)) reply
    (λ r p. proved_open (verdict_of p.report) (inquiry Blocking budget b) p.report r p.is_right p.answer) h
proof_open (Err fault) budget workers reply h = tt

-- of other commands nothing is said
nothing_told : (book : Result Contents BookFault) → IfOk book (λ b. Unit {0})
nothing_told (Ok b) = tt
nothing_told (Err fault) = tt

pub tells_open : (command : BookCommand) (input : List ℕ) (files files' : FilesTold) (reply : RunReply)
    → (promise_of command).replies input files files' reply → IfOk (book_of input) (λ b. TellsOpen command b reply)
unfolding promise_of
tells_open (Check budget workers) input files files' reply h = check_open (book_of input) budget workers reply h.is_answer
tells_open (Prove budget workers) input files files' reply h = proof_open (book_of input) budget workers reply h.is_answer
tells_open (Free day names budget) input files files' reply h = nothing_told (book_of input)
tells_open (Why day names budget) input files files' reply h = nothing_told (book_of input)
tells_open (Ask day text budget) input files files' reply h = nothing_told (book_of input)
tells_open (Order day ordered) input files files' reply h = nothing_told (book_of input)
tells_open (Verify file) input files files' reply h = nothing_told (book_of input)
tells_open (Supplements budget workers) input files files' reply h = nothing_told (book_of input)
tells_open (Compare day file budget workers) input files files' reply h = nothing_told (book_of input)
tells_open (OnDays ordered) input files files' reply h = nothing_told (book_of input)
tells_open (Require file budget workers) input files files' reply h = nothing_told (book_of input)
tells_open (Changes file budget workers) input files files' reply h = nothing_told (book_of input)
