-- The text of a report on supplementing rules.
--     supplement_question_text b q    a question, with the ids of its rules
--     supplement_text b notes         a line for each note, and how many findings there are
use Rattle.std.specs.Prelude.{ℕ, Bool, List, [], ◌++◌, codes, length}
use Rattle.std.specs.List.{flat_map}
use Rattle.book_model.specs.Contents.{Contents}
use Rattle.book_model.specs.Ids.{supplement_id}
use Rattle.pb_base.specs.Lines.{line, number_behind, days_text}
use Rattle.pb_base.specs.NamesText.{names_from}
use Rattle.supplement_findings.specs.Notes.{findings_in}
use Rattle.supplement_findings.specs.declared.question.SupplementQuestion.{SupplementQuestion}
use Rattle.supplement_findings.specs.declared.question.SupplementQuestion.TheVariants.{Breaks, Swaps}
use Rattle.supplement_findings.specs.declared.report.SupplementNote.{SupplementNote}
use Rattle.supplement_findings.specs.declared.report.SupplementNote.TheVariants.{Days, Finding, Undecided}

abbrev pub supplement_question_text : Contents → SupplementQuestion → List ℕ
supplement_question_text b (Breaks place) = codes "breaks " ++ supplement_id b place
supplement_question_text b (Swaps first second) = codes "swaps " ++ supplement_id b first ++ codes " " ++ supplement_id b second

-- a finding with the codes of its set; a question that was left after so many learnt clauses
abbrev pub shown_text : Contents → SupplementQuestion → List Bool → List ℕ
shown_text b question set = line (supplement_question_text b question ++ codes " with" ++ names_from 0 set b.codes)

abbrev pub left_text : Contents → SupplementQuestion → ℕ → List ℕ
left_text b question learnt = line (codes "undecided " ++ supplement_question_text b question ++ codes " after" ++ number_behind learnt)

abbrev pub supplement_note_text : Contents → SupplementNote → List ℕ
supplement_note_text b (Days first last) = days_text first last
supplement_note_text b (Finding question set) = shown_text b question set
supplement_note_text b (Undecided question learnt) = left_text b question (length learnt.clauses)

abbrev pub end_text : ℕ → List ℕ
end_text findings = line (codes "end" ++ number_behind findings)

abbrev pub supplement_text : Contents → List SupplementNote → List ℕ
supplement_text b notes = flat_map (supplement_note_text b) notes ++ end_text (findings_in notes)
