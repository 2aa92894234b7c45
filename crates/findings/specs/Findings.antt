-- What may be said of a question over a slice.
--     MeetsThrough b s q x   on each day of the slice the set is good and meets the question's goal
--     NeedsNoNote b s q      nothing is wrong: a question that a release asks has no set, another has one
--     IsFinding b s q set    what is wrong, with a set where the question must have none
use Rattle.std.specs.Prelude.{◌≡◌, ℕ, Bool, true, false, List, Option, Some, None, IsTrue}
use Rattle.pb_base.specs.Rule.{holds}
use Rattle.book_model.specs.Activity.{is_within}
use Rattle.book_model.specs.Contents.{Contents}
use Rattle.book_model.specs.Good.{is_good}
use Rattle.book_model.specs.declared.record.Slice.{Slice}
use Rattle.clausify.specs.Questions.{goal, HasSet, is_to_close}
use Rattle.clausify.specs.declared.question.Question.{Question}

pub record MeetsThrough (b : Contents) (s : Slice) (q : Question) (x : List Bool) : Type 0 where
  pub good_then : (day : ℕ) → IsTrue (is_within s.first s.last day) → is_good b day x ≡ true
  pub met_then : (day : ℕ) → IsTrue (is_within s.first s.last day) → holds (goal b day q) x ≡ true

pub record NeedsNoNote (b : Contents) (s : Slice) (q : Question) : Type 0 where
  pub no_fault : is_to_close q ≡ true → HasSet b s q → ⊥
  pub some_set : is_to_close q ≡ false → HasSet b s q

abbrev pub IsFinding : Contents → Slice → Question → Option (List Bool) → Type 0
IsFinding b s q (Some x) = (is_to_close q ≡ true) × MeetsThrough b s q x
IsFinding b s q None = (is_to_close q ≡ false) × (HasSet b s q → ⊥)
