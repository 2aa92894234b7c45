-- The clauses of questions on supplementing rules say what these ask for.
use Rattle.std.proofs.Common.{◌≡◌, ℕ, zero, suc, ◌+◌, ◌*◌, ◌^◌, ◌≤◌, ◌<◌, true, List, [], ◌∷◌, length, get_or, refl, sym, ap, subst, ◌∙◌, arith}
use Rattle.std.specs.List.{sum_by}
use Rattle.std.proofs.lemmas.Option.{slice_get_within}
use Rattle.book_model.specs.Book.{IsBook}
use Rattle.book_model.specs.Contents.{Contents}
use Rattle.book_model.specs.Good.{is_constructible}
use Rattle.clause_pool.specs.Literal.{literal, is_true}
use Rattle.clausify.proofs.RangeLaws.{positive_below}
use Rattle.clausify.proofs.Truth.{true_positive}
use Rattle.clausify.specs.Coded.{construct_variables}
use Rattle.inquiry.specs.Form.{IsLawful}
use Rattle.supplement_findings.specs.Answering.{IsPosed, form, goals_of, question_size, touch_count}
use Rattle.supplement_findings.specs.Clauses.{asked_start, unbroken_variables, questions_clauses, questions_variables}
use Rattle.supplement_findings.specs.declared.question.SupplementQuestion.{SupplementQuestion}
use Rattle.supplement_findings.proofs.GoalLaws.{MeetsGoal, posed_fit, built_from_meets, lifts_to_goal, meets_from_goal}
use Rattle.supplement_findings.proofs.SizeLaws.{asked_size, clauses_below, constructs_size, question_few, unbroken_few}

length-goals_of : (w : ℕ) (qs : List SupplementQuestion) → length (goals_of w qs) ≡ length qs
length-goals_of w [] = refl
length-goals_of w (q ∷ qs) = ap suc (length-goals_of (w + 1) qs)

goal_is : (w : ℕ) (qs : List SupplementQuestion) (place : ℕ) → place < length qs → get_or (goals_of w qs) place 0 ≡ literal (w + place) true
goal_is w [] place within = absurd (omega (arith, within))
goal_is w (q ∷ qs) zero within = ap (λ (n : ℕ). literal n true) (let e : w ≡ w + 0 = omega arith in e)
goal_is w (q ∷ qs) (suc place) within =
    goal_is (w + 1) qs place (omega (arith, within)) ∙ ap (λ (n : ℕ). literal n true) (let e : w + 1 + place ≡ w + suc place = omega arith in e)

-- the goals are the last of the variables
goals_last : (b : Contents) (day : ℕ) (codes : List ℕ) (qs : List SupplementQuestion) → questions_variables b day codes qs ≡ asked_start b day codes qs + length qs
goals_last b day codes [] = refl
goals_last b day codes (q ∷ []) = refl
goals_last b day codes (p ∷ q ∷ qs) = refl

codes_first : (b : Contents) (day : ℕ) (codes : List ℕ) (qs : List SupplementQuestion) → length b.codes ≤ questions_variables b day codes qs
codes_first b day codes [] = omega arith
codes_first b day codes (q ∷ []) = omega arith
codes_first b day codes (p ∷ q ∷ qs) = omega arith

pub source_lawful : (b : Contents) (day : ℕ) (codes : List ℕ) → IsBook b → sum_by (touch_count b) codes ≤ 1048576
    → IsLawful (form b day codes) (IsPosed b day codes) (λ x. is_constructible b day x ≡ true)
source_lawful b day codes book touched = record {
  below = λ qs posed. clauses_below b day codes qs book (posed_fit b day codes qs posed);
  codes_within = λ qs. codes_first b day codes qs;
  goals_counted = λ qs. length-goals_of (asked_start b day codes qs) qs;
  goals_below = λ qs posed place within.
      let m : ℕ = questions_variables b day codes qs in
      let start : ℕ = asked_start b day codes qs in
      let goal : ℕ = start + place in
      let less : goal < m = omega (arith, within, goals_last b day codes qs) in
      subst (λ (g : ℕ). g < 2 * m) (sym (goal_is start qs place within)) (positive_below goal m less);
  lifts = λ qs posed place q there x len met.
      let start : ℕ = asked_start b day codes qs in
      let m : MeetsGoal (questions_clauses b day codes qs) (start + place) = lifts_to_goal b day codes qs book posed place q there x len met in
      record {
        assignment = m.assignment;
        satisfies = m.satisfies;
        meets_it = ap (is_true m.assignment) (goal_is start qs place (slice_get_within qs place q there)) ∙ true_positive m.assignment (start + place) ∙ m.meets_it;
      };
  reads = λ qs posed place q there x a len begins sat assumed.
      let start : ℕ = asked_start b day codes qs in
      meets_from_goal b day codes qs book posed place q there x a len begins sat
      (sym (true_positive a (start + place)) ∙ sym (ap (is_true a) (goal_is start qs place (slice_get_within qs place q there))) ∙ assumed);
  may_show = λ q posed x len met. built_from_meets b day q x met;
  added = λ qs posed. asked_size b day codes qs posed;
  shared_few =
      let few : construct_variables b day + unbroken_variables b day codes ≤ 2 ^ 30 =
      omega (arith, constructs_size b day book, book.codes_limit, unbroken_few b day codes book, touched) in
      few;
  size_few = λ q posed. let few : question_size b q ≤ 2 ^ 30 = omega (arith, question_few b q book posed.fits) in few;
}
