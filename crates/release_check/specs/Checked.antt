-- What the check of a text gives.
--     IsCertifiedBook text budget book cert   the text reads as the book, and the certificate has no fault for it, so that the
--                                             book can be released; a right report of it says that too
--     IsReportedBook text budget book notes   the text reads as the book, and these are the notes of all questions
--     IsNotChecked text why                   the reading's fault, or a limit of checking
use Rattle.std.specs.Prelude.{◌≡◌, ℕ, List, Ok, Err}
use Rattle.book_model.specs.Contents.{Contents}
use Rattle.book_model.specs.Sound.{IsReleasable}
use Rattle.book_text.specs.BookText.{book_of}
use Rattle.derivation.specs.Accepted.{IsAccepted}
use Rattle.derivation.specs.Limits.{slices_within}
use Rattle.findings.specs.Notes.{IsReport, verdict_of}
use Rattle.findings.specs.declared.report.Ask.TheVariants.{All}
use Rattle.findings.specs.declared.report.Note.{Note}
use Rattle.findings.specs.declared.report.Verdict.TheVariants as verdicts
use Rattle.release_check.specs.NotReleased.{IsReportOf}
use Rattle.release_check.specs.declared.checking.NotChecked.{NotChecked}
use Rattle.release_check.specs.declared.checking.NotChecked.TheVariants.{Text, Limit}

pub record IsCertifiedBook (text : List ℕ) (budget : ℕ) (book : Contents) (cert : List ℕ) : Type 0 where
  pub accepted : IsAccepted book cert
  pub releasable : IsReleasable book
  pub notes : List Note
  pub report : IsReportOf text budget book notes
  pub verdict : verdict_of notes ≡ verdicts.Releasable

pub record IsReportedBook (text : List ℕ) (budget : ℕ) (book : Contents) (notes : List Note) : Type 0 where
  pub reads : book_of text ≡ Ok book
  pub report : IsReport (record { book = book; ask = All; budget = budget }) notes

abbrev pub IsNotChecked : List ℕ → NotChecked → Type 0
IsNotChecked text (Text fault) = book_of text ≡ Err fault
IsNotChecked text (Limit fault) = (book : Contents) × (book_of text ≡ Ok book) × (slices_within book ≡ Err fault)
