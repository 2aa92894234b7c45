-- The clauses of one question on supplementing rules say what it asks for.
use Rattle.std.proofs.Common.{◌≡◌, ℕ, ◌+◌, ◌<◌, Bool, true, List, [], ◌∷◌, length, refl, sym, ap, ◌∙◌, arith}
use Rattle.std.specs.List.{Contains}
use Rattle.std.proofs.lemmas.Bool.{eq-eqb, or_left}
use Rattle.std.proofs.lemmas.List.Elements.{All-contains}
use Rattle.pb_base.specs.Sets.{has}
use Rattle.book_model.specs.Book.{IsBook}
use Rattle.book_model.specs.Contents.{Contents}
use Rattle.clause_pool.specs.Clause.{Sat}
use Rattle.clause_pool.specs.Literal.{is_true}
use Rattle.clausify.proofs.Truth.{true_positive}
use Rattle.inquiry.specs.Form.{MeetsGoal}
use Rattle.supplement_findings.specs.Answering.{IsPosed}
use Rattle.supplement_findings.specs.Clauses.{goals_start, own, question_clauses, question_goal}
use Rattle.supplement_findings.specs.Questions.{QuestionFits, is_put, meets, questions, rule_at}
use Rattle.supplement_findings.specs.declared.question.SupplementQuestion.{SupplementQuestion}
use Rattle.supplement_findings.specs.declared.question.SupplementQuestion.TheVariants.{Breaks, Swaps}
use Rattle.supplement_findings.proofs.GoalLaws.{lifts_to_goal, meets_from_goal}
use Rattle.supplement_findings.proofs.ReportLaws.{questions_fitting, questions_put}

-- the codes of whose rules a question asks
abbrev codes_of : Contents → SupplementQuestion → List ℕ
codes_of b (Breaks place) = (rule_at b place).code ∷ []
codes_of b (Swaps first second) = []

posed : (b : Contents) (day : ℕ) (q : SupplementQuestion) → QuestionFits b q → is_put b day q ≡ true → IsPosed b day (codes_of b q) q
posed b day (Breaks place) fits put = record { fits = fits; put = put; read = or_left _ _ (eq-eqb (rule_at b place).code (rule_at b place).code refl) }
posed b day (Swaps first second) fits put = record { fits = fits; put = put; read = tt }

asked_is_posed : (b : Contents) (day : ℕ) (q : SupplementQuestion) → Contains (questions b day) q → IsPosed b day (codes_of b q) q
asked_is_posed b day q asked =
    posed b day q (All-contains (QuestionFits b) (questions b day) q (questions_fitting b day) asked)
    (All-contains (λ (p : SupplementQuestion). is_put b day p ≡ true) (questions b day) q (questions_put b day) asked)

pub met : (b : Contents) (day : ℕ) (q : SupplementQuestion) (x : List Bool) → IsBook b → Contains (questions b day) q → length x ≡ length b.codes → meets b day q x ≡ true
    → MeetsGoal (question_clauses b day q) (question_goal b day q)
met b day q x book asked counted shows =
    let v : ℕ = goals_start b day (own b day q) in
    let m = lifts_to_goal b day (codes_of b q) (q ∷ []) book (asked_is_posed b day q asked, tt) 0 q refl x counted shows in
    record {
      assignment = m.assignment;
      satisfies = m.satisfies;
      meets_it = true_positive m.assignment v ∙ ap m.assignment (let e : v ≡ v + 0 = omega arith in e) ∙ m.meets_it;
    }

pub shown : (b : Contents) (day : ℕ) (q : SupplementQuestion) (x : List Bool) (a : ℕ → Bool) → IsBook b → Contains (questions b day) q → length x ≡ length b.codes
    → ((i : ℕ) → i < length b.codes → a i ≡ has x i) → Sat (question_clauses b day q) a → is_true a (question_goal b day q) ≡ true → meets b day q x ≡ true
shown b day q x a book asked counted begins sat assumed =
    let v : ℕ = goals_start b day (own b day q) in
    meets_from_goal b day (codes_of b q) (q ∷ []) book (asked_is_posed b day q asked, tt) 0 q refl x a counted begins sat
    (ap a (let e : v + 0 ≡ v = omega arith in e) ∙ sym (true_positive a v) ∙ assumed)
