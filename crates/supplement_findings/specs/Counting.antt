-- How many questions are counted on the first days of slices.
--     count_in b day qs   how many of some questions are put on a day
--     more b qs t         a tally with further questions counted
--     total b s           the tally of a slice, all questions counted
--     pairs_at b place    the questions of the rule at a place with later ones
use Rattle.std.specs.Prelude.{ℕ, suc, ◌+◌, List, [], ◌∷◌, Option, None, Some, length, filter, drop, nat_lt, if◌then◌else◌}
use Rattle.pb_base.specs.declared.limits.TheConstants.{MOST_QUESTIONS}
use Rattle.book_model.specs.Contents.{Contents}
use Rattle.book_model.specs.declared.record.Slice.{Slice}
use Rattle.book_model.specs.declared.slicing.LimitFault.{LimitFault}
use Rattle.book_model.specs.declared.slicing.LimitFault.TheVariants.{Questions}
use Rattle.supplement_findings.specs.Limits.{asked_of}
use Rattle.supplement_findings.specs.Questions.{rule_at, is_put, swaps_with_later}
use Rattle.supplement_findings.specs.declared.question.SupplementQuestion.{SupplementQuestion}
use Rattle.supplement_findings.specs.declared.counting.Tally.{Tally}

abbrev pub count_in : Contents → ℕ → List SupplementQuestion → ℕ
count_in b day qs = length (filter (is_put b day) qs)

abbrev pub more : Contents → List SupplementQuestion → Tally → Tally
more b qs t = record { first = t.first; count = t.count + count_in b t.first qs }

abbrev pub counted : Contents → List SupplementQuestion → Slice → Tally
counted b qs s = record { first = s.first; count = count_in b s.first qs }

abbrev pub total : Contents → Slice → Tally
total b s = record { first = s.first; count = asked_of b s }

abbrev pub pairs_at : Contents → ℕ → List SupplementQuestion
pairs_at b place = swaps_with_later place (rule_at b place) (suc place) (drop (suc place) b.supplements)

-- the first with too many questions, where the first of the list has the number k
abbrev pub over : ℕ → List Tally → Option LimitFault
over k [] = None
over k (t ∷ ts) = if nat_lt MOST_QUESTIONS t.count then Some (Questions k t.count) else over (suc k) ts
