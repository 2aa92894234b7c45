-- The note that says what is told of a question.
use Rattle.inquiry.specs.declared.told.Told.{Told}
use Rattle.inquiry.specs.declared.told.Told.TheVariants as told
use Rattle.supplement_findings.specs.declared.question.SupplementQuestion.{SupplementQuestion}
use Rattle.supplement_findings.specs.declared.report.SupplementNote.{SupplementNote}
use Rattle.supplement_findings.specs.declared.report.SupplementNote.TheVariants.{Finding, Undecided}

abbrev pub note_of : Told SupplementQuestion → SupplementNote
note_of (told.Finding question set) = Finding question set
note_of (told.Undecided question learnt) = Undecided question learnt
