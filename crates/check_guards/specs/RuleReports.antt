-- What a report on supplementing rules says to its reader.
--     HasDays notes s                the notes name the days of the slice
--     IsCalm notes                   nothing is found, and no question was left
--     AreCalm b s                    on no day of the slice a set shows what a question on its rules asks for
--     NotesOn P first last notes     each finding is as P says of the days behind which it stands; the first ones stand behind these
--     BreaksThen b first last q x    a rule that is told to break a set does so on each of the days
use Rattle.std.specs.Prelude.{◌≡◌, ℕ, ◌≤◌, Bool, true, false, List, [], ◌∷◌, Contains, length}
use Rattle.std.specs.List.{AllByRecursion, list_any}
use Rattle.book_model.specs.Contents.{Contents}
use Rattle.book_model.specs.Good.{is_constructible}
use Rattle.book_model.specs.declared.record.Slice.{Slice}
use Rattle.supplement_findings.specs.Ends.{with_code}
use Rattle.supplement_findings.specs.Notes.{is_finding, is_undecided}
use Rattle.supplement_findings.specs.Questions.{meets, questions, rule_at}
use Rattle.supplement_findings.specs.declared.question.SupplementQuestion.{SupplementQuestion}
use Rattle.supplement_findings.specs.declared.question.SupplementQuestion.TheVariants.{Breaks, Swaps}
use Rattle.supplement_findings.specs.declared.report.SupplementNote.{SupplementNote}
use Rattle.supplement_findings.specs.declared.report.SupplementNote.TheVariants.{Days, Finding, Undecided}

abbrev pub HasDays : List SupplementNote → Slice → Type 0
HasDays notes s = Contains notes (Days s.first s.last)

abbrev pub IsCalm : List SupplementNote → Type 0
IsCalm notes = (list_any is_finding notes ≡ false) × (list_any is_undecided notes ≡ false)

abbrev pub NothingShows : Contents → Slice → SupplementQuestion → Type 0
NothingShows b s q = (day : ℕ) → s.first ≤ day → day ≤ s.last → (x : List Bool) → length x ≡ length b.codes → meets b day q x ≡ false

abbrev pub AreCalm : Contents → Slice → Type 0
AreCalm b s = AllByRecursion (NothingShows b s) (questions b s.first)

abbrev pub NotesOn : (ℕ → ℕ → SupplementQuestion → List Bool → Type 0) → ℕ → ℕ → List SupplementNote → Type 0
NotesOn P first last [] = Unit {0}
NotesOn P first last (Days from to ∷ notes) = NotesOn P from to notes
NotesOn P first last (Finding question set ∷ notes) = P first last question set × NotesOn P first last notes
NotesOn P first last (Undecided question learnt ∷ notes) = NotesOn P first last notes

-- the set is constructible, and with the rule's code it isn't
pub record IsBroken (b : Contents) (day place : ℕ) (x : List Bool) : Type 0 where
  pub before : is_constructible b day x ≡ true
  pub after : is_constructible b day (with_code (rule_at b place).code x) ≡ false

abbrev pub BreaksThen : Contents → ℕ → ℕ → SupplementQuestion → List Bool → Type 0
BreaksThen b first last (Breaks place) x = (day : ℕ) → first ≤ day → day ≤ last → IsBroken b day place x
BreaksThen b first last (Swaps one other) x = Unit {0}
