-- Which questions can be left.
--     IsOpen i s question    in the slice neither does propagation refute the question's goal, nor is the budget above the number
--                            of clauses that can be new
--     IsLeftOpen i s note    a note on a question; where the question was left, it is open in the slice
--     LeavesOpen i notes     each question that was left is open in the slice of its note
--     IsAmple b budget       on each day of the term the budget is above the number of clauses that can be new
--     was_left note          a question was left, whether it blocks a release or not
use Rattle.std.specs.Prelude.{◌≡◌, ℕ, ◌<◌, ◌≤◌, ◌^◌, Bool, true, false, List, [], ◌∷◌, Some, Ok, slice_get}
use Rattle.std.specs.List.{AllByRecursion}
use Rattle.pb_base.specs.InParts.{InParts}
use Rattle.book_model.specs.Contents.{Contents}
use Rattle.book_model.specs.declared.record.Slice.{Slice}
use Rattle.clause_pool.specs.Clause.{has}
use Rattle.clausify.specs.Coded.{slice_clauses, slice_variables, slice_asked}
use Rattle.clausify.specs.declared.question.Asked.{Asked}
use Rattle.clausify.specs.declared.question.Question.{Question}
use Rattle.derivation.specs.Limits.{slices_within}
use Rattle.propagate.specs.Quiet.{Quiet}
use Rattle.findings.specs.Notes.{Inquiry}
use Rattle.findings.specs.declared.report.Note.{Note}
use Rattle.findings.specs.declared.report.Note.TheVariants.{Days, Finding, Undecided}

pub record IsOpen (i : Inquiry) (s : Slice) (question : Question) : Type 0 where
  pub asked : Asked
  pub number : ℕ
  pub is_its : slice_get (slice_asked i.book s.first) number ≡ Some asked
  pub same : question ≡ asked.question
  -- over the slice's clauses the goal is true in a set of literals that propagation can't add to
  pub quiet_set : List ℕ
  pub quiet : Quiet (slice_clauses i.book s.first) quiet_set
  pub has_goal : has quiet_set asked.goal ≡ true
  pub within : i.budget ≤ 3 ^ slice_variables i.book s.first

abbrev pub IsLeftOpen : Inquiry → Slice → Note → Type 0
IsLeftOpen i s (Days first last) = ⊥
IsLeftOpen i s (Finding question set) = Unit {0}
IsLeftOpen i s (Undecided question learnt) = IsOpen i s question

-- the slice's days, and then notes on its questions
abbrev pub SliceLeavesOpen : Inquiry → Slice → List Note → Type 0
SliceLeavesOpen i s [] = ⊥
SliceLeavesOpen i s (note ∷ notes) = (note ≡ Days s.first s.last) × AllByRecursion (IsLeftOpen i s) notes

pub record LeavesOpen (i : Inquiry) (notes : List Note) : Type 0 where
  pub slices : List Slice
  pub within : slices_within i.book ≡ Ok slices
  pub each : InParts (SliceLeavesOpen i) slices notes

abbrev pub IsAmple : Contents → ℕ → Type 0
IsAmple b budget = (day : ℕ) → b.first ≤ day → day ≤ b.last → 3 ^ slice_variables b day < budget

abbrev pub was_left : Note → Bool
was_left (Days first last) = false
was_left (Finding question set) = false
was_left (Undecided question learnt) = true
