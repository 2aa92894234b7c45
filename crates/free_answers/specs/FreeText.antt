-- The text that tells what an order comes to, and what can be chosen beside its codes.
--     now_text b outcome            what the order comes to as it stands
--     code_word state came          what is so of a code; an open one may come with the order as it stands
--     lines_from i y states names   a line for each code, where the first name has the place i
--     open_count states             how many codes are open
--     free_text b answer            the whole
use Rattle.std.specs.Prelude.{ℕ, ◌+◌, Bool, true, false, List, [], ◌∷◌, ◌++◌, codes, count_by, slice_get, if◌then◌else◌}
use Rattle.std.specs.Option.{option_map_or}
use Rattle.pb_base.specs.Sets.{has}
use Rattle.book_model.specs.Contents.{Contents}
use Rattle.pb_base.specs.Lines.{line, number_behind}
use Rattle.left_cars.specs.declared.states.CodeState.{CodeState}
use Rattle.left_cars.specs.declared.states.CodeState.TheVariants.{Ordered, Forced, Excluded, Open, Undecided}
use Rattle.left_cars.specs.declared.states.Freedom.{Freedom}
use Rattle.left_cars.specs.declared.states.Freedom.TheVariants.{NoneLeft, NotDecided, Codes}
use Rattle.order_text.specs.OutcomeText.{refused_text, unfit_text}
use Rattle.parts_usage.specs.declared.judgement.Outcome.{Outcome}
use Rattle.parts_usage.specs.declared.judgement.Outcome.TheVariants.{Accepted, Refused, Unfit}
use Rattle.free_answers.specs.declared.answer.FreeAnswer.{FreeAnswer}

abbrev pub standing_text : Contents → Outcome → List ℕ
standing_text b (Accepted set list) = line (codes "accepted")
standing_text b (Refused rule) = refused_text b rule
standing_text b (Unfit position count) = unfit_text b position count

abbrev pub now_text : Contents → Outcome → List ℕ
now_text b outcome = codes "now " ++ standing_text b outcome

abbrev pub open_word : Bool → List ℕ
open_word came = if came then codes "comes " else codes "open "

abbrev pub code_word : CodeState → Bool → List ℕ
code_word Ordered came = codes "ordered "
code_word Forced came = codes "forced "
code_word Excluded came = codes "excluded "
code_word Open came = open_word came
code_word (Undecided learnt) came = codes "left "

-- the line of the code at a place; an open code comes where the completed set has it
abbrev pub line_at : List Bool → List CodeState → ℕ → List ℕ → List ℕ
line_at completed states place name =
    option_map_or (λ state. line (code_word state (has completed place) ++ name)) (slice_get states place) []

abbrev pub lines_from : ℕ → List Bool → List CodeState → List (List ℕ) → List ℕ
lines_from i completed states [] = []
lines_from i completed states (name ∷ names) = line_at completed states i name ++ lines_from (i + 1) completed states names

abbrev pub is_open : CodeState → Bool
is_open Ordered = false
is_open Forced = false
is_open Excluded = false
is_open Open = true
is_open (Undecided learnt) = false

abbrev pub open_count : List CodeState → ℕ
open_count states = count_by is_open states

abbrev pub end_text : ℕ → List ℕ
end_text count = line (codes "end" ++ number_behind count)

abbrev pub states_text : Contents → List Bool → List CodeState → List ℕ
states_text b completed states = lines_from 0 completed states b.codes ++ end_text (open_count states)

-- where no car is left, or that wasn't decided, nothing is told of codes
abbrev pub freedom_text : Contents → List Bool → Freedom → List ℕ
freedom_text b completed NoneLeft = codes "none\nend 0\n"
freedom_text b completed (NotDecided learnt) = codes "undecided\nend 0\n"
freedom_text b completed (Codes states) = states_text b completed states.items

abbrev pub free_text : Contents → FreeAnswer → List ℕ
free_text b answer = now_text b answer.outcome ++ freedom_text b answer.completed answer.freedom
