-- What the check of supplementing rules is answered, and what is promised of `supplements`.
--     supplement_status report    by the findings, and then by what is undecided
--     RepliesToSupplements book budget reply    the report, or the fault of the text, or the limit that the book exceeds
use Rattle.std.specs.Prelude.{◌≡◌, ℕ, false, List, Result, Ok, Err, IsOk, IfOk, map, if◌then◌else◌}
use Rattle.std.specs.List.{list_any}
use Rattle.book_model.specs.Contents.{Contents}
use Rattle.book_text.specs.BookText.{book_of}
use Rattle.book_text.specs.declared.fault.BookFault.{BookFault}
use Rattle.supplement_findings.specs.SupplementText.{supplement_text}
use Rattle.supplement_findings.specs.Limits.{slices_within}
use Rattle.supplement_findings.specs.Notes.{SupplementInquiry, IsReport, is_finding, is_undecided}
use Rattle.supplement_findings.specs.declared.report.SupplementNote.{SupplementNote}
use Rattle.book_commands.specs.Ample.{IsAmpleForRules}
use Rattle.book_commands.specs.Checks.{RepliesWithin}
use Rattle.book_commands.specs.Ends.{EndsCheck, IsCheckStatus}
use Rattle.book_commands.specs.Promise.{Promise, RepliesAlone, fails_nowhere, touches_nothing}
use Rattle.book_commands.specs.RunReply.{RunReply, book_fault_reply}
use Rattle.book_commands.specs.declared.log.Note.TheVariants.{Supplement}
use Rattle.book_commands.specs.declared.run_status.RunStatus.{RunStatus}
use Rattle.book_commands.specs.declared.run_status.RunStatus.TheVariants.{Done, Refused, Undecided}

abbrev pub supplement_status : List SupplementNote → RunStatus
supplement_status report =
    if list_any is_finding report then Refused else (if list_any is_undecided report then Undecided else Done)

-- the report, which stands in the log
abbrev pub supplement_reply : Contents → List SupplementNote → RunReply
supplement_reply b report = record { text = supplement_text b report; status = supplement_status report; notes = map Supplement report }

-- a right report
pub record IsSupplementReply (i : SupplementInquiry) (reply : RunReply) : Type 0 where
  pub report : List SupplementNote
  pub is_right : IsReport i report
  pub answer : reply ≡ supplement_reply i.book report

abbrev pub RepliesToSupplements : Result Contents BookFault → ℕ → RunReply → Type 0
RepliesToSupplements (Ok b) budget reply = RepliesWithin (slices_within b) (IsSupplementReply (record { book = b; budget = budget })) reply
RepliesToSupplements (Err fault) budget reply = reply ≡ book_fault_reply fault

-- the text is a book that keeps the limits of this check
pub record IsAskable (book : Result Contents BookFault) : Type 0 where
  pub no_fault : IsOk book
  pub limits : IfOk book (λ b. IsOk (slices_within b))

abbrev pub supplements_promise : ℕ → Promise
supplements_promise budget = record {
  replies = λ input. RepliesAlone (RepliesToSupplements (book_of input) budget);
  fails_at_file = fails_nowhere;
  keeps_files = touches_nothing;
  is_valid = λ input files. IsAskable (book_of input);
  is_status = IsCheckStatus;
  is_answer = EndsCheck;
  tells_release = false;
  tells_refusal = false;
  is_ample = λ input files. IsAmpleForRules budget input;
}
