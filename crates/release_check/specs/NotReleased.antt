-- Why a text is not released.
--     inquiry_of book budget              the questions that matter for a release
--     IsReportOf text budget book notes   the text reads as the book, and these are its findings that matter for a release
--     IsRefusal text budget why           the reading's fault, a limit of checking, or such a report and its verdict
use Rattle.std.specs.Prelude.{◌≡◌, ℕ, List, Ok, Err}
use Rattle.book_model.specs.Contents.{Contents}
use Rattle.book_text.specs.BookText.{book_of}
use Rattle.derivation.specs.Limits.{slices_within}
use Rattle.findings.specs.Notes.{Inquiry, IsReport, verdict_of}
use Rattle.findings.specs.declared.report.Ask.TheVariants.{Blocking}
use Rattle.findings.specs.declared.report.Note.{Note}
use Rattle.findings.specs.declared.report.Verdict.TheVariants as verdicts
use Rattle.release_check.specs.declared.not_released.NotReleased.{NotReleased}
use Rattle.release_check.specs.declared.not_released.NotReleased.TheVariants.{Text, Found, Undecided, Limit}

abbrev pub inquiry_of : Contents → ℕ → Inquiry
inquiry_of book budget = record { book = book; ask = Blocking; budget = budget }

pub record IsReportOf (text : List ℕ) (budget : ℕ) (book : Contents) (notes : List Note) : Type 0 where
  pub reads : book_of text ≡ Ok book
  pub report : IsReport (inquiry_of book budget) notes

abbrev pub IsRefusal : List ℕ → ℕ → NotReleased → Type 0
IsRefusal text budget (Text fault) = book_of text ≡ Err fault
IsRefusal text budget (Found book report) = IsReportOf text budget book report × (verdict_of report ≡ verdicts.Blocked)
IsRefusal text budget (Undecided book report) = IsReportOf text budget book report × (verdict_of report ≡ verdicts.Undecided)
IsRefusal text budget (Limit fault) = (book : Contents) × (book_of text ≡ Ok book) × (slices_within book ≡ Err fault)
