-- What a report on supplementing rules is.
--     IsNoteOf i s q note   a finding has a set that shows it on each day of the slice; what is undecided has the clauses that were learnt
--     OwnNotes i s q notes  a question has one note, or none where no set shows what it asks for
--     SliceNotes i s notes  a slice's days, and then the notes on its questions in order
--     IsReport i notes      a part for each slice of the book, in order
--     findings_in notes     how many findings there are
use Rattle.std.specs.Prelude.{◌≡◌, ℕ, Bool, true, false, List, [], ◌∷◌, Ok, IsTrue, length, count_by}
use Rattle.pb_base.specs.InParts.{InParts}
use Rattle.book_model.specs.Activity.{is_within}
use Rattle.book_model.specs.Contents.{Contents}
use Rattle.book_model.specs.Good.{is_constructible}
use Rattle.book_model.specs.declared.record.Slice.{Slice}
use Rattle.solver.specs.Answer.{IsSpent}
use Rattle.supplement_findings.specs.Clauses.{question_clauses, question_variables, question_goal}
use Rattle.supplement_findings.specs.Ends.{HasOneEnd}
use Rattle.supplement_findings.specs.Limits.{slices_within}
use Rattle.supplement_findings.specs.Questions.{questions, meets}
use Rattle.supplement_findings.specs.declared.question.SupplementQuestion.{SupplementQuestion}
use Rattle.supplement_findings.specs.declared.report.SupplementNote.{SupplementNote}
use Rattle.supplement_findings.specs.declared.report.SupplementNote.TheVariants.{Days, Finding, Undecided}

-- of which book the findings are told, and how many clauses may be learnt for a question
pub record SupplementInquiry : Type 0 where
  pub book : Contents
  pub budget : ℕ

-- a set of the book's codes that shows what is asked for, on each day of the slice
pub record ShownBy (b : Contents) (s : Slice) (q : SupplementQuestion) (x : List Bool) : Type 0 where
  pub counted : length x ≡ length b.codes
  pub on_each_day : (day : ℕ) → IsTrue (is_within s.first s.last day) → meets b day q x ≡ true

-- no set shows it on any day of the slice
abbrev pub ShownByNone : Contents → Slice → SupplementQuestion → Type 0
ShownByNone b s q =
    (day : ℕ) → IsTrue (is_within s.first s.last day) → (x : List Bool) → length x ≡ length b.codes → meets b day q x ≡ false

abbrev pub IsNoteOf : SupplementInquiry → Slice → SupplementQuestion → SupplementNote → Type 0
IsNoteOf i s q (Days first last) = ⊥
IsNoteOf i s q (Finding question set) = (question ≡ q) × ShownBy i.book s q set
IsNoteOf i s q (Undecided question learnt) =
    (question ≡ q)
    × IsSpent (question_variables i.book s.first q) (question_clauses i.book s.first q) (question_goal i.book s.first q ∷ []) i.budget learnt.clauses

abbrev pub OwnNotes : SupplementInquiry → Slice → SupplementQuestion → List SupplementNote → Type 0
OwnNotes i s q [] = ShownByNone i.book s q
OwnNotes i s q (note ∷ []) = IsNoteOf i s q note
OwnNotes i s q (note ∷ second ∷ notes) = ⊥

-- on each day of the slice each constructible set of the book's codes has one end
abbrev pub HasOneEndThrough : Contents → Slice → Type 0
HasOneEndThrough b s =
    (day : ℕ) → IsTrue (is_within s.first s.last day) → (x : List Bool) → length x ≡ length b.codes
    → is_constructible b day x ≡ true → HasOneEnd b day x

-- in a slice without a finding and with nothing undecided the order in which rules fire is of no account
pub record SliceNotes (i : SupplementInquiry) (s : Slice) (notes : List SupplementNote) : Type 0 where
  pub own : List SupplementNote
  pub days_first : notes ≡ Days s.first s.last ∷ own
  pub answers : InParts (OwnNotes i s) (questions i.book s.first) own
  pub one_end : own ≡ [] → HasOneEndThrough i.book s

pub record IsReport (i : SupplementInquiry) (notes : List SupplementNote) : Type 0 where
  pub slices : List Slice
  pub within : slices_within i.book ≡ Ok slices
  pub each : InParts (SliceNotes i) slices notes

abbrev pub is_finding : SupplementNote → Bool
is_finding (Days first last) = false
is_finding (Finding question set) = true
is_finding (Undecided question learnt) = false

abbrev pub is_undecided : SupplementNote → Bool
is_undecided (Days first last) = false
is_undecided (Finding question set) = false
is_undecided (Undecided question learnt) = true

abbrev pub findings_in : List SupplementNote → ℕ
findings_in notes = count_by is_finding notes
