-- What is known while the questions of a slice are asked.
--     AreTouched codes rs table   for each of so many codes the places of the rules that it touches
--     IsRead b codes q            the code of the question's rule is one of those codes
--     IsPosed b day codes q       a question of the book that is put on the day
--     IsCounted b x               a set of the book's codes
--     IsBuilt b day x             a constructible one
--     IsTask b task               a slice on all days of which the same records are active, and a budget within its bounds
--     IsSource b table codes      a book, with the rules that each code touches, and some codes that touch few enough together
--     IsGroup b qs group          the codes of questions
--     question_size b q           how many variables a question adds at most
--     form b day codes            what is computed of questions on a day
use Rattle.std.specs.Prelude.{◌≡◌, ℕ, ◌+◌, ◌*◌, ◌^◌, ◌==◌, ◌<◌, ◌≤◌, Bool, true, List, [], ◌∷◌, All, length, slice_index_or}
use Rattle.std.specs.List.{list_any, sum_by}
use Rattle.pb_base.specs.Node.{size}
use Rattle.pb_base.specs.declared.limits.TheConstants.{MOST_BUDGET}
use Rattle.book_model.specs.Book.{IsBook}
use Rattle.book_model.specs.Contents.{Contents}
use Rattle.book_model.specs.Good.{is_constructible}
use Rattle.book_model.specs.Slices.{IsOrdered, IsSteady}
use Rattle.book_model.specs.declared.record.Construct.{Construct}
use Rattle.clause_pool.specs.Literal.{literal}
use Rattle.clausify.specs.Coded.{construct_variables}
use Rattle.inquiry.specs.Form.{Form}
use Rattle.supplement_findings.specs.Clauses.{asked_start, unbroken_variables, questions_clauses, questions_variables}
use Rattle.supplement_findings.specs.Notes.{SupplementInquiry}
use Rattle.supplement_findings.specs.Questions.{is_put, meets, rule_at, QuestionFits}
use Rattle.supplement_findings.specs.Touching.{touched_from}
use Rattle.supplement_findings.specs.declared.group.Group.{Group}
use Rattle.supplement_findings.specs.declared.question.SupplementQuestion.{SupplementQuestion}
use Rattle.supplement_findings.specs.declared.question.SupplementQuestion.TheVariants.{Breaks, Swaps}
use Rattle.supplement_findings.specs.declared.slice.SliceTask.{SliceTask}

pub record AreTouched (codes : ℕ) (rs : List Construct) (table : List (List ℕ)) : Type 0 where
  pub counted : length table ≡ codes
  pub each : (c : ℕ) → c < codes → slice_index_or table c [] ≡ touched_from 0 c rs

abbrev pub IsRead : Contents → List ℕ → SupplementQuestion → Type 0
IsRead b codes (Breaks place) = list_any (λ k. k == (rule_at b place).code) codes ≡ true
IsRead b codes (Swaps first second) = Unit {0}

pub record IsPosed (b : Contents) (day : ℕ) (codes : List ℕ) (q : SupplementQuestion) : Type 0 where
  pub fits : QuestionFits b q
  pub put : is_put b day q ≡ true
  pub read : IsRead b codes q

-- the question at this place
abbrev pub question_at : List SupplementQuestion → ℕ → SupplementQuestion
question_at qs place = slice_index_or qs place (Breaks 0)

abbrev pub IsCounted : Contents → List Bool → Type 0
IsCounted b x = length x ≡ length b.codes

-- and one that is constructible on the day
abbrev pub IsBuilt : Contents → ℕ → List Bool → Type 0
IsBuilt b day x = (length x ≡ length b.codes) × (is_constructible b day x ≡ true)

pub record IsTask (b : Contents) (task : SliceTask) : Type 0 where
  pub order : IsOrdered task.slice
  pub steady : IsSteady b task.slice
  pub some : 0 < task.budget
  pub most : task.budget ≤ MOST_BUDGET

-- how many rules a code touches
abbrev pub touch_count : Contents → ℕ → ℕ
touch_count b c = length (touched_from 0 c b.constructs)

pub record IsSource (b : Contents) (table : List (List ℕ)) (codes : List ℕ) : Type 0 where
  pub book : IsBook b
  pub rules : AreTouched (length b.codes) b.constructs table
  pub known : All (λ c. c < length b.codes) codes
  pub few : sum_by (touch_count b) codes ≤ 2 ^ 20

-- the codes of questions, with the number of rules that they touch
pub record IsGroup (b : Contents) (qs : List SupplementQuestion) (group : Group) : Type 0 where
  pub read : All (IsRead b group.codes.items) qs
  pub known : All (λ c. c < length b.codes) group.codes.items
  pub counted : group.touched ≡ sum_by (touch_count b) group.codes.items
  pub few : group.touched ≤ 2 ^ 20
  pub none : length qs ≡ 0 → group.touched ≡ 0

abbrev pub question_size : Contents → SupplementQuestion → ℕ
question_size b (Breaks place) = size (rule_at b place).rule + 1
question_size b (Swaps first second) = 2 * (size (rule_at b first).rule + size (rule_at b second).rule) + 1

-- the goals of questions, where w is the variable of the first
abbrev pub goals_of : ℕ → List SupplementQuestion → List ℕ
goals_of w [] = []
goals_of w (q ∷ qs) = literal w true ∷ goals_of (w + 1) qs

abbrev pub form : Contents → ℕ → List ℕ → Form SupplementQuestion
form b day codes = record {
  codes = length b.codes;
  shows = meets b day;
  clauses = questions_clauses b day codes;
  variables = questions_variables b day codes;
  goals = λ qs. goals_of (asked_start b day codes qs) qs;
  shared = construct_variables b day + unbroken_variables b day codes;
  size = question_size b;
}

abbrev pub inquiry : Contents → ℕ → SupplementInquiry
inquiry b budget = record { book = b; budget = budget }
