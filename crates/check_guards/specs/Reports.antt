-- What a report says to its reader.
--     HasGoodSet b day               some set is good on the day
--     HasDays notes s                the notes name the days of the slice
--     NotesOn P first last notes     each note on a question is as P says of the days behind which it stands; the first ones stand behind these
--     IsGoodThen b first last note   a set that is shown is good on each of the days
--     IsRefutedThen b first last note    where none is shown, on none of the days a good set meets what was asked
use Rattle.std.specs.Prelude.{◌≡◌, ℕ, ◌≤◌, Bool, true, List, [], ◌∷◌, Option, Some, None, Contains}
use Rattle.pb_base.specs.Rule.{holds}
use Rattle.book_model.specs.Contents.{Contents}
use Rattle.book_model.specs.Good.{is_good}
use Rattle.book_model.specs.declared.record.Slice.{Slice}
use Rattle.clausify.specs.Questions.{goal}
use Rattle.clausify.specs.declared.question.Question.{Question}
use Rattle.findings.specs.declared.report.Note.{Note}
use Rattle.findings.specs.declared.report.Note.TheVariants.{Days, Finding, Undecided}

pub record HasGoodSet (b : Contents) (day : ℕ) : Type 0 where
  pub set : List Bool
  pub good : is_good b day set ≡ true

abbrev pub HasDays : List Note → Slice → Type 0
HasDays notes s = Contains notes (Days s.first s.last)

-- of the question of a finding, and its set, on these days
abbrev pub NotesOn : (ℕ → ℕ → Question → Option (List Bool) → Type 0) → ℕ → ℕ → List Note → Type 0
NotesOn P first last [] = Unit {0}
NotesOn P first last (Days from to ∷ notes) = NotesOn P from to notes
NotesOn P first last (Finding question set ∷ notes) = P first last question set × NotesOn P first last notes
NotesOn P first last (Undecided question learnt ∷ notes) = NotesOn P first last notes

abbrev pub IsGoodThen : Contents → ℕ → ℕ → Question → Option (List Bool) → Type 0
IsGoodThen b first last question None = Unit {0}
IsGoodThen b first last question (Some x) = (day : ℕ) → first ≤ day → day ≤ last → is_good b day x ≡ true

abbrev pub IsRefutedThen : Contents → ℕ → ℕ → Question → Option (List Bool) → Type 0
IsRefutedThen b first last question None =
    (day : ℕ) → first ≤ day → day ≤ last → (x : List Bool) → is_good b day x ≡ true → holds (goal b day question) x ≡ true → ⊥
IsRefutedThen b first last question (Some x) = Unit {0}
