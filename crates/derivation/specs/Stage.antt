-- How far a certificate has been read.
--     SliceSoFar           a slice of which the set line has been read
--     Stage                what may stand on the next line
--     to_close i asked     the questions that a certificate has to close, in order
use Rattle.std.specs.Prelude.{ℕ, suc, List, [], ◌∷◌, if◌then◌else◌}
use Rattle.clausify.specs.declared.question.Asked.{Asked}
use Rattle.clausify.specs.Questions.{is_to_close}
use Rattle.derivation.specs.declared.closing.ToClose.{ToClose}

-- its number, its clauses so far, and its questions that are left to close
pub record SliceSoFar : Type 0 where
  pub slice : ℕ
  pub clauses : List (List ℕ)
  pub left : List ToClose

-- the first line, the book line, the line of the first slice, the set line of the slice of this number, a line of a slice or
-- the line behind it, or no line
pub data Stage : Type 0 where
  at_head : Stage
  at_book : Stage
  at_slices : Stage
  at_set : ℕ → Stage
  within : SliceSoFar → Stage
  at_end : Stage

-- each question has its number, where the first of the list has the number i
abbrev pub to_close : ℕ → List Asked → List ToClose
to_close i [] = []
to_close i (a ∷ as_) =
    if is_to_close a.question then record { question = i; goal = a.goal } ∷ to_close (suc i) as_ else to_close (suc i) as_
