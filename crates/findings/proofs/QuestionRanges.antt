-- What the questions of a slice name is in the book.
use Rattle.std.proofs.Common.{◌≡◌, ℕ, List, All, get_or, sym, subst, arith}
use Rattle.std.specs.List.{AllByRecursion}
use Rattle.std.proofs.lemmas.Option.{slice_get-get_or}
use Rattle.book_model.specs.Contents.{Contents}
use Rattle.clause_pool.proofs.ClauseLaws.{all_found}
use Rattle.clausify.specs.Questions.{QuestionFits, code_questions_from}
use Rattle.clausify.specs.declared.question.Question.{Question}
use Rattle.clausify.proofs.ListLaws.{all-append}
use Rattle.clausify.proofs.RangeLaws.{codes_fit, choices_fit}
use Rattle.findings.specs.Core.{later_questions}

later_by_recursion : (b : Contents) (day : ℕ) → AllByRecursion (QuestionFits b) (later_questions b day)
later_by_recursion b day = all-append _ (code_questions_from 0 b.codes) _ (codes_fit b 0 b.codes (omega arith)) (choices_fit b day 0 b.positions (omega arith))

pub later_fit : (b : Contents) (day : ℕ) (qs : List Question) → qs ≡ later_questions b day → All (QuestionFits b) qs
later_fit b day qs are =
    subst (All (QuestionFits b)) (sym are)
    (λ k d within. all_found (QuestionFits b) (later_questions b day) k (get_or (later_questions b day) k d) (later_by_recursion b day) (slice_get-get_or (later_questions b day) k d within))
