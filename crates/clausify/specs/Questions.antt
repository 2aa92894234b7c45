-- What is asked of a slice, in order, and the goal of each question.
--     questions b day       Void, then two for each code, then those of each choice
--     goal b day q          the formula that a good set has to meet
--     HasSet b s q          on some day of the slice some good set meets the goal
--     is_to_close q         a release asks that the question has no set
--     QuestionFits b q      what the question names is in the book
use Rattle.std.specs.Prelude.{◌≡◌, ℕ, suc, ◌≤◌, ◌<◌, Bool, true, false, List, [], ◌∷◌, ◌++◌, length, map, if◌then◌else◌}
use Rattle.std.specs.List.{flat_map}
use Rattle.pb_base.specs.Rule.{Rule, code, negation, both, always, holds}
use Rattle.book_model.specs.Contents.{Contents}
use Rattle.book_model.specs.Good.{is_good}
use Rattle.book_model.specs.declared.record.Slice.{Slice}
use Rattle.clausify.specs.Choices.{Choice, choices, usage, active_variants}
use Rattle.clausify.specs.Pairs.{pairs}
use Rattle.clausify.specs.declared.question.Question.{Question}
use Rattle.clausify.specs.declared.question.Question.TheVariants.{Void, Necessary, Inadmissible, Superfluous, Ambiguous, Uncovered}

abbrev pub uncovered_question : Bool → ℕ → List Question
uncovered_question mandatory place = if mandatory then Uncovered place ∷ [] else []

abbrev pub choice_questions : Choice → List Question
choice_questions c =
    map Superfluous c.variants ++ map (λ p. Ambiguous c.position p.0 p.1) (pairs c.variants) ++ uncovered_question c.mandatory c.position

-- the two of each code, of which the first has the place i
abbrev pub code_questions_from : ℕ → List (List ℕ) → List Question
code_questions_from i [] = []
code_questions_from i (name ∷ names) = Necessary i ∷ Inadmissible i ∷ code_questions_from (suc i) names

abbrev pub questions : Contents → ℕ → List Question
questions b day = Void ∷ (code_questions_from 0 b.codes ++ flat_map choice_questions (choices b day))

-- the rule f and none of these, grouped to the left
abbrev pub and_none : Rule → List Rule → Rule
and_none f [] = f
and_none f (g ∷ gs) = and_none (both f (negation g)) gs

-- none of these rules is true
abbrev pub none_rule : List Rule → Rule
none_rule [] = always
none_rule (f ∷ fs) = and_none (negation f) fs

abbrev pub goal : Contents → ℕ → Question → Rule
goal b day Void = always
goal b day (Necessary place) = negation (code place)
goal b day (Inadmissible place) = code place
goal b day (Superfluous variant) = usage b variant
goal b day (Ambiguous position first second) = both (usage b first) (usage b second)
goal b day (Uncovered position) = none_rule (map (usage b) (active_variants b day position))

pub record HasSet (b : Contents) (s : Slice) (q : Question) : Type 0 where
  pub day : ℕ
  pub not_before : s.first ≤ day
  pub not_after : day ≤ s.last
  pub set : List Bool
  pub is_good_then : is_good b day set ≡ true
  pub meets_goal : holds (goal b day q) set ≡ true

-- two variants of a position together, and none of a mandatory one: no good set may meet such a goal where a book is released
abbrev pub is_to_close : Question → Bool
is_to_close Void = false
is_to_close (Necessary place) = false
is_to_close (Inadmissible place) = false
is_to_close (Superfluous variant) = false
is_to_close (Ambiguous position first second) = true
is_to_close (Uncovered position) = true

-- what a question other than Void names is in the book
abbrev pub QuestionFits : Contents → Question → Type 0
QuestionFits b Void = ⊥
QuestionFits b (Necessary place) = place < length b.codes
QuestionFits b (Inadmissible place) = place < length b.codes
QuestionFits b (Superfluous variant) = variant < length b.variants
QuestionFits b (Ambiguous position first second) =
    (position < length b.positions) × (first < length b.variants) × (second < length b.variants)
QuestionFits b (Uncovered position) = position < length b.positions
