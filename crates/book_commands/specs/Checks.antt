-- What the check of a whole book is answered, and what is promised of `check` and of `prove`.
--     RepliesToCheck book budget reply    the report on all questions
--     RepliesToProof book budget reply    a certificate, or the report on what keeps the book from its release
--     not_checked_reply why               why there is no report
--     kept_back_reply why                 why there is no certificate, or no released book
use Rattle.std.specs.Prelude.{◌≡◌, ℕ, ◌≤◌, true, List, Result, Ok, Err, IsOk, IfOk}
use Rattle.pb_base.specs.declared.limits.TheConstants.{MOST_SLICES}
use Rattle.book_model.specs.Contents.{Contents}
use Rattle.book_model.specs.Sound.{IsReleasable}
use Rattle.book_model.specs.declared.record.Slice.{Slice}
use Rattle.book_model.specs.declared.slicing.LimitFault.{LimitFault}
use Rattle.book_text.specs.BookText.{book_of}
use Rattle.book_text.specs.declared.fault.BookFault.{BookFault}
use Rattle.derivation.specs.Limits.{slices_within}
use Rattle.derivation.specs.Accepted.{IsAccepted}
use Rattle.findings.specs.Notes.{Inquiry, IsReport, verdict_of}
use Rattle.findings.specs.declared.report.Ask.{Ask}
use Rattle.findings.specs.declared.report.Ask.TheVariants.{All, Blocking}
use Rattle.findings.specs.declared.report.Note.{Note as Told}
use Rattle.findings.specs.declared.report.Verdict.{Verdict}
use Rattle.findings.specs.declared.report.Verdict.TheVariants.{Releasable, Blocked, Undecided}
use Rattle.release_check.specs.declared.checking.NotChecked.{NotChecked}
use Rattle.release_check.specs.declared.checking.NotChecked.TheVariants as not_checked
use Rattle.release_check.specs.declared.not_released.NotReleased.{NotReleased}
use Rattle.release_check.specs.declared.not_released.NotReleased.TheVariants as not_released
use Rattle.book_commands.specs.Ample.{IsAmpleFor}
use Rattle.book_commands.specs.Ends.{EndsCheck, IsCheckStatus}
use Rattle.book_commands.specs.Logged.{slices_told}
use Rattle.book_commands.specs.Promise.{Promise, RepliesAlone, fails_nowhere, touches_nothing}
use Rattle.book_commands.specs.RunReply.{RunReply, book_fault_reply, limit_fault_reply, report_reply, certificate_reply}

-- a right report, and where it says that the book can be released, the book can
pub record IsReported (i : Inquiry) (reply : RunReply) : Type 0 where
  pub report : List Told
  pub is_right : IsReport i report
  pub released : verdict_of report ≡ Releasable → IsReleasable i.book
  pub answer : reply ≡ report_reply i.book report

-- a certificate of the book
pub record IsCertified (b : Contents) (reply : RunReply) : Type 0 where
  pub text : List ℕ
  pub accepted : IsAccepted b text
  pub answer : reply ≡ certificate_reply text

-- by a report's verdict: the certificate, or the report
abbrev pub IsProvedBy : Verdict → Contents → List Told → RunReply → Type 0
IsProvedBy Releasable b report reply = IsCertified b reply
IsProvedBy Blocked b report reply = reply ≡ report_reply b report
IsProvedBy Undecided b report reply = reply ≡ report_reply b report

pub record IsProved (i : Inquiry) (reply : RunReply) : Type 0 where
  pub report : List Told
  pub is_right : IsReport i report
  pub answer : IsProvedBy (verdict_of report) i.book report reply

-- the answer to a book within the limits of a check, or the first limit that it exceeds
abbrev pub RepliesWithin : Result (List Slice) LimitFault → (RunReply → Type 0) → RunReply → Type 0
RepliesWithin (Ok slices) IsAnswer reply = IsAnswer reply
RepliesWithin (Err fault) IsAnswer reply = reply ≡ limit_fault_reply fault

-- what is asked of a book, and how many clauses may be learnt for a question
abbrev pub inquiry : Ask → ℕ → Contents → Inquiry
inquiry ask budget b = record { book = b; ask = ask; budget = budget }

abbrev pub RepliesToCheck : Result Contents BookFault → ℕ → RunReply → Type 0
RepliesToCheck (Ok b) budget reply = RepliesWithin (slices_within b) (IsReported (inquiry All budget b)) reply
RepliesToCheck (Err fault) budget reply = reply ≡ book_fault_reply fault

abbrev pub RepliesToProof : Result Contents BookFault → ℕ → RunReply → Type 0
RepliesToProof (Ok b) budget reply = RepliesWithin (slices_within b) (IsProved (inquiry Blocking budget b)) reply
RepliesToProof (Err fault) budget reply = reply ≡ book_fault_reply fault

-- by why the text is not checked: its fault, or the limit that its book exceeds
abbrev pub not_checked_reply : NotChecked → RunReply
not_checked_reply (not_checked.Text fault) = book_fault_reply fault
not_checked_reply (not_checked.Limit fault) = limit_fault_reply fault

-- by why the book is not released: the fault of the text, the limit that it exceeds, or the report on it
abbrev pub kept_back_reply : NotReleased → RunReply
kept_back_reply (not_released.Text fault) = book_fault_reply fault
kept_back_reply (not_released.Found b report) = report_reply b report
kept_back_reply (not_released.Undecided b report) = report_reply b report
kept_back_reply (not_released.Limit fault) = limit_fault_reply fault

-- a report tells of no more slices than a book may have
abbrev pub HasFewSlices : NotReleased → Type 0
HasFewSlices (not_released.Text fault) = Unit {0}
HasFewSlices (not_released.Found b report) = slices_told report ≤ MOST_SLICES
HasFewSlices (not_released.Undecided b report) = slices_told report ≤ MOST_SLICES
HasFewSlices (not_released.Limit fault) = Unit {0}

-- the text is a book that keeps the limits of a check
pub record IsCheckable (book : Result Contents BookFault) : Type 0 where
  pub no_fault : IsOk book
  pub limits : IfOk book (λ b. IsOk (slices_within b))

-- not on every day of its term some set of codes is good, or some good set doesn't select exactly one variant at each mandatory
-- position and nowhere two
abbrev pub IsUnreleasable : Contents → Type 0
IsUnreleasable b = IsReleasable b → ⊥

-- ---- the promises

abbrev pub check_promise : ℕ → Promise
check_promise budget = record {
  replies = λ input. RepliesAlone (RepliesToCheck (book_of input) budget);
  fails_at_file = fails_nowhere;
  keeps_files = touches_nothing;
  is_valid = λ input files. IsCheckable (book_of input);
  is_status = IsCheckStatus;
  is_answer = EndsCheck;
  tells_release = true;
  tells_refusal = true;
  is_ample = λ input files. IsAmpleFor budget input;
}

abbrev pub proof_promise : ℕ → Promise
proof_promise budget = record {
  replies = λ input. RepliesAlone (RepliesToProof (book_of input) budget);
  fails_at_file = fails_nowhere;
  keeps_files = touches_nothing;
  is_valid = λ input files. IsCheckable (book_of input);
  is_status = IsCheckStatus;
  is_answer = EndsCheck;
  tells_release = true;
  tells_refusal = true;
  is_ample = λ input files. IsAmpleFor budget input;
}
