-- The limits of a book's slices and of the questions on its supplementing rules.
--     slices_within b     the slices of a book that keeps the limits, or the first limit that it exceeds
use Rattle.std.specs.Prelude.{ℕ, suc, List, [], ◌∷◌, Option, None, Some, Result, Ok, length, nat_lt, if◌then◌else◌}
use Rattle.pb_base.specs.Results.{and_then, unless}
use Rattle.pb_base.specs.declared.limits.TheConstants.{MOST_QUESTIONS}
use Rattle.book_model.specs.Contents.{Contents}
use Rattle.book_model.specs.Slices.{slices_of}
use Rattle.book_model.specs.declared.record.Slice.{Slice}
use Rattle.book_model.specs.declared.slicing.LimitFault.{LimitFault}
use Rattle.book_model.specs.declared.slicing.LimitFault.TheVariants.{Questions}
use Rattle.supplement_findings.specs.Questions.{questions}

abbrev pub asked_of : Contents → Slice → ℕ
asked_of b s = length (questions b s.first)

-- the first slice with too many questions, where the first of the list has the number k
abbrev pub first_over : ℕ → Contents → List Slice → Option LimitFault
first_over k b [] = None
first_over k b (s ∷ ss) = if nat_lt MOST_QUESTIONS (asked_of b s) then Some (Questions k (asked_of b s)) else first_over (suc k) b ss

abbrev pub slices_within : Contents → Result (List Slice) LimitFault
slices_within b = and_then (slices_of b) (λ slices. unless (first_over 0 b slices) (Ok slices))
