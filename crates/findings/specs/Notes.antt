-- What a report is, and its verdict.
--     is_blocking q       a book with such a finding is not released
--     verdict_of notes    blocked by a finding, else undecided by a question that was left, else releasable
--     IsReport i notes    a note for each slice of the book in order, each followed by the notes on its questions in order
use Rattle.std.specs.Prelude.{◌≡◌, ℕ, Bool, true, false, List, [], ◌∷◌, ◌++◌, Ok, filter, if◌then◌else◌}
use Rattle.std.specs.List.{list_any}
use Rattle.pb_base.specs.InParts.{InParts}
use Rattle.book_model.specs.Contents.{Contents}
use Rattle.book_model.specs.declared.record.Slice.{Slice}
use Rattle.clausify.specs.Coded.{slice_clauses, slice_variables, slice_asked}
use Rattle.clausify.specs.Questions.{is_to_close}
use Rattle.clausify.specs.declared.question.Asked.{Asked}
use Rattle.clausify.specs.declared.question.Question.{Question}
use Rattle.clausify.specs.declared.question.Question.TheVariants.{Void}
use Rattle.derivation.specs.Limits.{slices_within}
use Rattle.solver.specs.Answer.{IsSpent}
use Rattle.findings.specs.Findings.{NeedsNoNote, IsFinding}
use Rattle.findings.specs.declared.report.Ask.{Ask}
use Rattle.findings.specs.declared.report.Ask.TheVariants.{All, Blocking}
use Rattle.findings.specs.declared.report.Note.{Note}
use Rattle.findings.specs.declared.report.Note.TheVariants.{Days, Finding, Undecided}
use Rattle.findings.specs.declared.report.Verdict.{Verdict}
use Rattle.findings.specs.declared.report.Verdict.TheVariants as verdicts

-- a slice without a good set, two variants of one position together, and none of a mandatory one
abbrev pub is_blocking : Question → Bool
is_blocking Void = true
is_blocking q = is_to_close q

-- a blocking finding
abbrev pub is_fault : Note → Bool
is_fault (Days first last) = false
is_fault (Finding question set) = is_blocking question
is_fault (Undecided question learnt) = false

-- a blocking question that was left
abbrev pub is_left : Note → Bool
is_left (Days first last) = false
is_left (Finding question set) = false
is_left (Undecided question learnt) = is_blocking question

abbrev pub verdict_of : List Note → Verdict
verdict_of notes =
    if list_any is_fault notes then verdicts.Blocked
    else (if list_any is_left notes then verdicts.Undecided else verdicts.Releasable)

-- of which book the findings are told, of which questions, and how many clauses may be learnt for one of them
pub record Inquiry : Type 0 where
  pub book : Contents
  pub ask : Ask
  pub budget : ℕ

abbrev pub is_asked : Ask → Question → Bool
is_asked All q = true
is_asked Blocking q = is_blocking q

-- a note on a question is a finding, or has the clauses that were learnt before it was left
abbrev pub IsNoteOf : Inquiry → Slice → Asked → Note → Type 0
IsNoteOf i s a (Days first last) = ⊥
IsNoteOf i s a (Finding question set) = (question ≡ a.question) × IsFinding i.book s a.question set
IsNoteOf i s a (Undecided question learnt) =
    (question ≡ a.question)
    × IsSpent (slice_variables i.book s.first) (slice_clauses i.book s.first) (a.goal ∷ []) i.budget learnt.clauses

-- a question has one note or none
abbrev pub OwnNotes : Inquiry → Slice → Asked → List Note → Type 0
OwnNotes i s a [] = NeedsNoNote i.book s a.question
OwnNotes i s a (note ∷ []) = IsNoteOf i s a note
OwnNotes i s a (note ∷ second ∷ notes) = ⊥

-- behind a note on Void nothing is asked
abbrev pub AfterVoid : Inquiry → Slice → List Asked → List Note → List Note → Type 0
AfterVoid i s later [] notes = InParts (OwnNotes i s) (filter (λ a. is_asked i.ask a.question) later) notes
AfterVoid i s later (note ∷ own) notes = notes ≡ []

-- the notes on the questions of a slice, of which Void is the first
abbrev pub QuestionNotes : Inquiry → Slice → List Asked → List Note → Type 0
QuestionNotes i s [] notes = notes ≡ []
QuestionNotes i s (void ∷ later) notes =
    (own : List Note) × (others : List Note) × (notes ≡ own ++ others) × OwnNotes i s void own × AfterVoid i s later own others

abbrev pub SliceNotes : Inquiry → Slice → List Note → Type 0
SliceNotes i s [] = ⊥
SliceNotes i s (note ∷ notes) = (note ≡ Days s.first s.last) × QuestionNotes i s (slice_asked i.book s.first) notes

pub record IsReport (i : Inquiry) (notes : List Note) : Type 0 where
  pub slices : List Slice
  pub within : slices_within i.book ≡ Ok slices
  pub each : InParts (SliceNotes i) slices notes
