-- What says that the book can't be released is right.
use Rattle.std.proofs.Common.{◌≡◌, ◌∙◌, ℕ, List, Result, Ok, Err, refl, sym, ap}
use Rattle.std.specs.Prelude.{IsOkAnd}
use Rattle.book_model.specs.Contents.{Contents}
use Rattle.book_model.specs.Book.{IsBook}
use Rattle.book_model.specs.declared.record.Slice.{Slice}
use Rattle.book_model.specs.declared.slicing.LimitFault.{LimitFault}
use Rattle.book_text.specs.BookText.{book_of}
use Rattle.book_text.specs.declared.fault.BookFault.{BookFault}
use Rattle.book_text.proofs.BookLaw.{book_of-book}
use Rattle.derivation.specs.Limits.{slices_within}
use Rattle.findings.specs.Notes.{Inquiry, IsReport, verdict_of}
use Rattle.findings.specs.declared.report.Ask.TheVariants.{All, Blocking}
use Rattle.findings.specs.declared.report.Note.{Note as Told}
use Rattle.findings.specs.declared.report.Verdict.{Verdict}
use Rattle.findings.specs.declared.report.Verdict.TheVariants.{Releasable, Blocked, Undecided}
use Rattle.book_commands.specs.Checks.{IsReported, IsProvedBy, IsProved, RepliesWithin, IsUnreleasable, inquiry, RepliesToCheck, RepliesToProof}
use Rattle.book_commands.specs.RunReply.{RunReply, verdict_status, report_reply}
use Rattle.book_commands.specs.declared.run_status.RunStatus.TheVariants.{Done, Refused, Faulty}
use Rattle.book_commands.proofs.NeverBlocked.{never_blocked}

-- the status of a refusal comes with a report with a finding that keeps the book from its release
blocked_by_status : (verdict : Verdict) → Refused ≡ verdict_status verdict → verdict ≡ Blocked
blocked_by_status Releasable refused = cc
blocked_by_status Blocked refused = refl
blocked_by_status Undecided refused = cc

report_blocked : (b : Contents) (report : List Told) (reply : RunReply) → reply ≡ report_reply b report → Refused ≡ reply.status → verdict_of report ≡ Blocked
report_blocked b report reply e refused = blocked_by_status (verdict_of report) (refused ∙ ap (λ (r : RunReply). r.status) e)

-- such a report is only of a book that can't be released
unreleasable : (i : Inquiry) (report : List Told) → IsBook i.book → IsReport i report → verdict_of report ≡ Blocked → IsUnreleasable i.book
unreleasable i report book is blocked = λ releasable. never_blocked i report book releasable is blocked

proved-blocked : (verdict : Verdict) (i : Inquiry) (report : List Told) (reply : RunReply) → verdict_of report ≡ verdict → IsBook i.book
    → IsReport i report → IsProvedBy verdict i.book report reply → Refused ≡ reply.status → IsUnreleasable i.book
proved-blocked Releasable i report reply e book is h refused = let clash : Refused ≡ Done = refused ∙ ap (λ (r : RunReply). r.status) h.answer in cc
proved-blocked Blocked i report reply e book is h refused = unreleasable i report book is e
proved-blocked Undecided i report reply e book is h refused =
    let clash : Undecided ≡ Blocked = sym e ∙ report_blocked i.book report reply h refused in cc

within-blocked : (limits : Result (List Slice) LimitFault) (IsAnswer : RunReply → Type 0) (b : Contents) (reply : RunReply)
    → (IsAnswer reply → IsUnreleasable b) → RepliesWithin limits IsAnswer reply → Refused ≡ reply.status → IsUnreleasable b
within-blocked (Ok slices) IsAnswer b reply shown h refused = shown h
within-blocked (Err fault) IsAnswer b reply shown h refused = let clash : Refused ≡ Faulty = refused ∙ ap (λ (r : RunReply). r.status) h in cc

pub check-blocked : (input : List ℕ) (book : Result Contents BookFault) (budget : ℕ) (reply : RunReply) → book_of input ≡ book
    → RepliesToCheck book budget reply → Refused ≡ reply.status → IsOkAnd book IsUnreleasable
check-blocked input (Ok b) budget reply e h refused =
    within-blocked (slices_within b) (IsReported (inquiry All budget b)) b reply
    (λ is. unreleasable (inquiry All budget b) is.report (book_of-book input b e) is.is_right (report_blocked b is.report reply is.answer refused)) h refused
check-blocked input (Err fault) budget reply e h refused = let clash : Refused ≡ Faulty = refused ∙ ap (λ (r : RunReply). r.status) h in cc

pub proof-blocked : (input : List ℕ) (book : Result Contents BookFault) (budget : ℕ) (reply : RunReply) → book_of input ≡ book
    → RepliesToProof book budget reply → Refused ≡ reply.status → IsOkAnd book IsUnreleasable
proof-blocked input (Ok b) budget reply e h refused =
    within-blocked (slices_within b) (IsProved (inquiry Blocking budget b)) b reply
    (λ p. proved-blocked (verdict_of p.report) (inquiry Blocking budget b) p.report reply refl (book_of-book input b e) p.is_right p.answer refused) h refused
proof-blocked input (Err fault) budget reply e h refused = let clash : Refused ≡ Faulty = refused ∙ ap (λ (r : RunReply). r.status) h in cc
