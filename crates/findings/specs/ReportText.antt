-- The text of a report.
--     question_text b q        a question, with the ids of what it names
--     note_text b note         a line for each note
--     report_text b notes      the book and its term, the notes, and what they come to
use Rattle.std.specs.Prelude.{ℕ, Bool, List, [], ◌++◌, Option, None, Some, codes, length}
use Rattle.std.specs.List.{flat_map}
use Rattle.book_model.specs.Contents.{Contents}
use Rattle.book_model.specs.Ids.{code_name, variant_id, position_id}
use Rattle.clausify.specs.declared.question.Question.{Question}
use Rattle.clausify.specs.declared.question.Question.TheVariants.{Void, Necessary, Inadmissible, Superfluous, Ambiguous, Uncovered}
use Rattle.findings.specs.Notes.{verdict_of}
use Rattle.findings.specs.declared.report.Note.{Note}
use Rattle.findings.specs.declared.report.Note.TheVariants.{Days, Finding, Undecided}
use Rattle.findings.specs.declared.report.Verdict.{Verdict}
use Rattle.findings.specs.declared.report.Verdict.TheVariants as verdict
use Rattle.pb_base.specs.Lines.{line, number_behind, days_text}
use Rattle.pb_base.specs.NamesText.{names_from}

abbrev pub ambiguous_text : Contents → ℕ → ℕ → ℕ → List ℕ
ambiguous_text b position first second =
    codes "ambiguous " ++ position_id b position ++ codes " " ++ variant_id b first ++ codes " " ++ variant_id b second

abbrev pub question_text : Contents → Question → List ℕ
question_text b Void = codes "void"
question_text b (Necessary place) = codes "necessary " ++ code_name b place
question_text b (Inadmissible place) = codes "inadmissible " ++ code_name b place
question_text b (Superfluous variant) = codes "superfluous " ++ variant_id b variant
question_text b (Ambiguous position first second) = ambiguous_text b position first second
question_text b (Uncovered position) = codes "uncovered " ++ position_id b position

-- the codes of a set that shows a finding, where it has one
abbrev pub set_text : Contents → Option (List Bool) → List ℕ
set_text b None = []
set_text b (Some set) = codes " with" ++ names_from 0 set b.codes

-- a finding; a question that was left after so many learnt clauses
abbrev pub finding_text : Contents → Question → Option (List Bool) → List ℕ
finding_text b question set = line (question_text b question ++ set_text b set)

abbrev pub undecided_text : Contents → Question → ℕ → List ℕ
undecided_text b question learnt = line (codes "undecided " ++ question_text b question ++ codes " after" ++ number_behind learnt)

abbrev pub note_text : Contents → Note → List ℕ
note_text b (Days first last) = days_text first last
note_text b (Finding question set) = finding_text b question set
note_text b (Undecided question learnt) = undecided_text b question (length learnt.clauses)

abbrev pub verdict_text : Verdict → List ℕ
verdict_text verdict.Releasable = line (codes "end releasable")
verdict_text verdict.Blocked = line (codes "end blocked")
verdict_text verdict.Undecided = line (codes "end undecided")

-- the book and its term
abbrev pub book_line : Contents → List ℕ
book_line b = line (codes "book " ++ b.name ++ number_behind b.first ++ number_behind b.last)

abbrev pub report_text : Contents → List Note → List ℕ
report_text b notes = book_line b ++ flat_map (note_text b) notes ++ verdict_text (verdict_of notes)
