-- What is asked on several slices.
--     AreAsked b all table     all questions of the book, with the rules that each code touches
--     IsSliceTask b budget s   the slice may be asked, with this budget for each question
--     notes_in notes           the notes of a slice
use Rattle.std.specs.Prelude.{◌≡◌, ℕ, List, length}
use Rattle.book_model.specs.Contents.{Contents}
use Rattle.book_model.specs.declared.record.Slice.{Slice}
use Rattle.supplement_findings.specs.Answering.{AreTouched, IsTask}
use Rattle.supplement_findings.specs.Questions.{all_questions}
use Rattle.supplement_findings.specs.declared.question.SupplementQuestion.{SupplementQuestion}
use Rattle.supplement_findings.specs.declared.report.SupplementNote.{SupplementNote}

pub record AreAsked (b : Contents) (all : List SupplementQuestion) (table : List (List ℕ)) : Type 0 where
  pub whole : all ≡ all_questions b
  pub rules : AreTouched (length b.codes) b.constructs table

abbrev pub IsSliceTask : Contents → ℕ → Slice → Type 0
IsSliceTask b budget s = IsTask b (record { slice = s; budget = budget })

abbrev pub notes_in : List SupplementNote → List SupplementNote
notes_in notes = notes
