-- What is asked of the supplementing rules on a day.
--     is_asked s t           two rules add different codes, and the code of one stands in the formula of the other
--     all_questions b        the questions of all rules, and then of all pairs that are asked, whatever their days
--     questions b day        those of the rules that are active on the day
--     meets b day q x        the set shows what the question asks for
--     QuestionFits b q       what the question names is in the book, and a pair is one that is asked
use Rattle.std.specs.Prelude.{◌≡◌, ℕ, suc, Bool, true, not, ◌&&◌, ◌||◌, ◌==◌, ◌<◌, List, [], ◌∷◌, ◌++◌, length, filter, slice_index_or, if◌then◌else◌}
use Rattle.pb_base.specs.Rule.{never}
use Rattle.book_model.specs.Activity.{is_within}
use Rattle.book_model.specs.Contents.{Contents}
use Rattle.book_model.specs.declared.record.Supplement.{Supplement}
use Rattle.supplement.specs.Occurrences.{occurs}
use Rattle.supplement_findings.specs.Ends.{breaks_with, swaps_with}
use Rattle.supplement_findings.specs.declared.question.SupplementQuestion.{SupplementQuestion}
use Rattle.supplement_findings.specs.declared.question.SupplementQuestion.TheVariants.{Breaks, Swaps}

-- a rule that is never active, in place of one that the book doesn't have
abbrev pub no_rule : Supplement
no_rule = record { id = []; rank = 0; code = 0; rule = never; from = 1; until = 0 }

abbrev pub rule_at : Contents → ℕ → Supplement
rule_at b place = slice_index_or b.supplements place no_rule

abbrev pub is_active : ℕ → Supplement → Bool
is_active day s = is_within s.from s.until day

-- either formula may turn false only by a code that stands in it
abbrev pub is_asked : Supplement → Supplement → Bool
is_asked s t = not (s.code == t.code) && (occurs s.code t.rule || occurs t.code s.rule)

-- of rules of which the first has the place i
abbrev pub breaks_from : ℕ → List Supplement → List SupplementQuestion
breaks_from i [] = []
breaks_from i (s ∷ ss) = Breaks i ∷ breaks_from (suc i) ss

-- of the rule s at the place i with later ones, of which the first has the place k
abbrev pub swaps_with_later : ℕ → Supplement → ℕ → List Supplement → List SupplementQuestion
swaps_with_later i s k [] = []
swaps_with_later i s k (t ∷ ts) =
    if is_asked s t then Swaps i k ∷ swaps_with_later i s (suc k) ts else swaps_with_later i s (suc k) ts

abbrev pub swaps_from : ℕ → List Supplement → List SupplementQuestion
swaps_from i [] = []
swaps_from i (s ∷ ss) = swaps_with_later i s (suc i) ss ++ swaps_from (suc i) ss

abbrev pub all_questions : Contents → List SupplementQuestion
all_questions b = breaks_from 0 b.supplements ++ swaps_from 0 b.supplements

-- the rules that it is of are active
abbrev pub is_put : Contents → ℕ → SupplementQuestion → Bool
is_put b day (Breaks place) = is_active day (rule_at b place)
is_put b day (Swaps first second) = is_active day (rule_at b first) && is_active day (rule_at b second)

abbrev pub questions : Contents → ℕ → List SupplementQuestion
questions b day = filter (is_put b day) (all_questions b)

abbrev pub meets : Contents → ℕ → SupplementQuestion → List Bool → Bool
meets b day (Breaks place) x = breaks_with b day (rule_at b place) x
meets b day (Swaps first second) x = swaps_with b day (rule_at b first) (rule_at b second) x

abbrev pub QuestionFits : Contents → SupplementQuestion → Type 0
QuestionFits b (Breaks place) = place < length b.supplements
QuestionFits b (Swaps first second) =
    (first < length b.supplements) × (second < length b.supplements) × (is_asked (rule_at b first) (rule_at b second) ≡ true)
