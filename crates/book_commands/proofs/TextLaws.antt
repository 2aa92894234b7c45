-- What the check of a text comes to, as a reply.
use Rattle.std.proofs.Common.{◌≡◌, ◌∙◌, ℕ, List, refl, sym, subst, ap}
use Rattle.std.specs.Prelude.{Result, Ok, Err, IfOk}
use Rattle.book_model.specs.Book.{IsBook}
use Rattle.book_model.specs.Contents.{Contents}
use Rattle.book_model.specs.declared.record.Slice.{Slice}
use Rattle.book_model.specs.declared.slicing.LimitFault.{LimitFault}
use Rattle.book_text.specs.BookText.{book_of}
use Rattle.book_text.specs.declared.fault.BookFault.{BookFault}
use Rattle.derivation.specs.Limits.{slices_within}
use Rattle.findings.specs.Notes.{verdict_of}
use Rattle.findings.specs.declared.report.Ask.TheVariants as ask
use Rattle.findings.specs.declared.report.Note.{Note as Told}
use Rattle.findings.specs.declared.report.Verdict.{Verdict}
use Rattle.findings.specs.declared.report.Verdict.TheVariants as verdicts
use Rattle.release_check.specs.Checked.{IsCertifiedBook, IsNotChecked, IsReportedBook}
use Rattle.release_check.specs.NotReleased.{IsReportOf, IsRefusal}
use Rattle.release_check.specs.declared.checking.NotChecked.{NotChecked}
use Rattle.release_check.specs.declared.checking.NotChecked.TheVariants as not_checked
use Rattle.release_check.specs.declared.not_released.NotReleased.{NotReleased}
use Rattle.release_check.specs.declared.not_released.NotReleased.TheVariants as not_released
use Rattle.book_commands.specs.Checks.{IsProvedBy, IsProved, IsReported, RepliesWithin, inquiry, RepliesToCheck, RepliesToProof, not_checked_reply, kept_back_reply, HasFewSlices}
use Rattle.book_commands.specs.CompareReply.{IsKeptBack}
use Rattle.book_commands.specs.RunReply.{RunReply, book_fault_reply, certificate_reply, limit_fault_reply, report_reply, verdict_status}
use Rattle.book_commands.specs.declared.run_status.RunStatus.{RunStatus}
use Rattle.book_commands.specs.declared.run_status.RunStatus.TheVariants as statuses
use Rattle.book_commands.proofs.ReportLaws.{reported}
use Rattle.book_commands.proofs.SlicesTold.{few_told}

-- ---- the report of all questions, or why there is none

pub report_told : {E : Type 0} (text : List ℕ) (budget : ℕ) (b : Contents) (report : List Told) (result : Result RunReply E) → IsBook b → IsReportedBook text budget b report
    → IfOk result (λ reply. reply ≡ report_reply b report) → IfOk result (RepliesToCheck (book_of text) budget)
report_told text budget b report (Ok reply) book of is =
    subst (λ (read : Result Contents BookFault). RepliesToCheck read budget reply) (sym of.reads) (reported b budget report reply book of.report is)
report_told text budget b report (Err memory) book of is = tt

unchecked : (text : List ℕ) (budget : ℕ) (why : NotChecked) (reply : RunReply) → IsNotChecked text why → reply ≡ not_checked_reply why → RepliesToCheck (book_of text) budget reply
unchecked text budget (not_checked.Text fault) reply reads is = subst (λ (book : Result Contents BookFault). RepliesToCheck book budget reply) (sym reads) is
unchecked text budget (not_checked.Limit fault) reply limit is =
    subst (λ (book : Result Contents BookFault). RepliesToCheck book budget reply) (sym limit.1)
    (subst (λ (l : Result (List Slice) LimitFault). RepliesWithin l (IsReported (inquiry ask.All budget limit.0)) reply) (sym limit.2) is)

pub not_checked_told : {E : Type 0} (text : List ℕ) (budget : ℕ) (why : NotChecked) (result : Result RunReply E) → IsNotChecked text why
    → IfOk result (λ reply. reply ≡ not_checked_reply why) → IfOk result (RepliesToCheck (book_of text) budget)
not_checked_told text budget why (Ok reply) cause is = unchecked text budget why reply cause is
not_checked_told text budget why (Err memory) cause is = tt

-- ---- a certificate, or what keeps the book from its release

-- by a right report of the text's book
proved_by : (text : List ℕ) (budget : ℕ) (b : Contents) (report : List Told) (reply : RunReply) → IsReportOf text budget b report → IsProvedBy (verdict_of report) b report reply
    → RepliesToProof (book_of text) budget reply
proved_by text budget b report reply of by =
    subst (λ (book : Result Contents BookFault). RepliesToProof book budget reply) (sym of.reads)
    (subst (λ (l : Result (List Slice) LimitFault). RepliesWithin l (IsProved (inquiry ask.Blocking budget b)) reply) (sym of.report.within)
    (record { report = report; is_right = of.report; answer = by }))

pub certificate_told : (text : List ℕ) (budget : ℕ) (b : Contents) (cert : List ℕ) (reply : RunReply) → IsCertifiedBook text budget b cert → reply ≡ certificate_reply cert
    → RepliesToProof (book_of text) budget reply
certificate_told text budget b cert reply of is =
    proved_by text budget b of.notes reply of.report
    (subst (λ (v : Verdict). IsProvedBy v b of.notes reply) (sym of.verdict) (record { text = cert; accepted = of.accepted; answer = is }))

-- the status is not that of a certificate
other_status : (status : RunStatus) (reply : RunReply) → reply.status ≡ status → (status ≡ statuses.Done → ⊥) → reply.status ≡ statuses.Done → ⊥
other_status status reply is other done = other (sym is ∙ done)

faulty : statuses.Faulty ≡ statuses.Done → ⊥
faulty same = cc

kept_by_text : (text : List ℕ) (budget : ℕ) (fault : BookFault) (reply : RunReply) → book_of text ≡ Err fault → reply ≡ book_fault_reply fault → IsKeptBack text budget reply
kept_by_text text budget fault reply reads is = record {
  answer = subst (λ (book : Result Contents BookFault). RepliesToProof book budget reply) (sym reads) is;
  kept = other_status statuses.Faulty reply (ap (λ (r : RunReply). r.status) is) faulty;
}

kept_by_limit : (text : List ℕ) (budget : ℕ) (b : Contents) (fault : LimitFault) (reply : RunReply) → book_of text ≡ Ok b → slices_within b ≡ Err fault → reply ≡ limit_fault_reply fault → IsKeptBack text budget reply
kept_by_limit text budget b fault reply reads limits is = record {
  answer =
      subst (λ (book : Result Contents BookFault). RepliesToProof book budget reply) (sym reads)
      (subst (λ (l : Result (List Slice) LimitFault). RepliesWithin l (IsProved (inquiry ask.Blocking budget b)) reply) (sym limits) is);
  kept = other_status statuses.Faulty reply (ap (λ (r : RunReply). r.status) is) faulty;
}

-- by a report whose verdict is not that the book can be released
kept_by_report : (text : List ℕ) (budget : ℕ) (b : Contents) (report : List Told) (reply : RunReply) → IsReportOf text budget b report → IsProvedBy (verdict_of report) b report reply
    → (reply.status ≡ statuses.Done → ⊥) → IsKeptBack text budget reply
kept_by_report text budget b report reply of by kept = record { answer = proved_by text budget b report reply of by; kept = kept }

status_of : (b : Contents) (report : List Told) (reply : RunReply) (verdict : Verdict) → verdict_of report ≡ verdict → reply ≡ report_reply b report → reply.status ≡ verdict_status verdict
status_of b report reply verdict is same = ap (λ (r : RunReply). r.status) same ∙ ap verdict_status is

refused : statuses.Refused ≡ statuses.Done → ⊥
refused same = cc

undecided : statuses.Undecided ≡ statuses.Done → ⊥
undecided same = cc

kept_by_finding : (text : List ℕ) (budget : ℕ) (b : Contents) (report : List Told) (reply : RunReply) → IsReportOf text budget b report → verdict_of report ≡ verdicts.Blocked
    → reply ≡ report_reply b report → IsKeptBack text budget reply
kept_by_finding text budget b report reply of verdict is =
    kept_by_report text budget b report reply of (subst (λ (v : Verdict). IsProvedBy v b report reply) (sym verdict) is)
    (other_status statuses.Refused reply (status_of b report reply verdicts.Blocked verdict is) refused)

kept_by_question : (text : List ℕ) (budget : ℕ) (b : Contents) (report : List Told) (reply : RunReply) → IsReportOf text budget b report → verdict_of report ≡ verdicts.Undecided
    → reply ≡ report_reply b report → IsKeptBack text budget reply
kept_by_question text budget b report reply of verdict is =
    kept_by_report text budget b report reply of (subst (λ (v : Verdict). IsProvedBy v b report reply) (sym verdict) is)
    (other_status statuses.Undecided reply (status_of b report reply verdicts.Undecided verdict is) undecided)

-- whatever keeps a book back
pub kept_by_refusal : (text : List ℕ) (budget : ℕ) (why : NotReleased) → IsRefusal text budget why → IsKeptBack text budget (kept_back_reply why)
kept_by_refusal text budget (not_released.Text fault) reads = kept_by_text text budget fault (book_fault_reply fault) reads refl
kept_by_refusal text budget (not_released.Found b report) refusal = kept_by_finding text budget b report (report_reply b report) refusal.0 refusal.1 refl
kept_by_refusal text budget (not_released.Undecided b report) refusal = kept_by_question text budget b report (report_reply b report) refusal.0 refusal.1 refl
kept_by_refusal text budget (not_released.Limit fault) refusal = kept_by_limit text budget refusal.0 fault (limit_fault_reply fault) refusal.1 refusal.2 refl

pub few_slices : (text : List ℕ) (budget : ℕ) (why : NotReleased) → IsRefusal text budget why → HasFewSlices why
few_slices text budget (not_released.Text fault) refusal = tt
few_slices text budget (not_released.Found b report) refusal = few_told _ report refusal.0.report
few_slices text budget (not_released.Undecided b report) refusal = few_told _ report refusal.0.report
few_slices text budget (not_released.Limit fault) refusal = tt

pub refusal_told : {E : Type 0} (text : List ℕ) (budget : ℕ) (why : NotReleased) (result : Result RunReply E) → IsRefusal text budget why
    → IfOk result (λ reply. reply ≡ kept_back_reply why) → IfOk result (RepliesToProof (book_of text) budget)
refusal_told text budget why (Ok reply) refusal is = subst (RepliesToProof (book_of text) budget) (sym is) (kept_by_refusal text budget why refusal).answer
refusal_told text budget why (Err memory) refusal is = tt
