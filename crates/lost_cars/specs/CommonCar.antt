-- Whether some car of one book is one of another.
--     any_rule rules      one of the formulas is true
--     none_rule rules     none is
--     AreAsked own other day qs    some of the questions, in order; by each of the others no car is lost
--     IsCommonRule own other day f    a car is lost by none of these
--     IsCommonAnswer own other day budget answer    the codes of such a car, that there is none, or that the search for one was left
use Rattle.std.specs.Prelude.{◌≡◌, ℕ, List, [], ◌∷◌, length, map}
use Rattle.pb_base.specs.InParts.{InParts}
use Rattle.pb_base.specs.Rule.{Rule, either, negation, never}
use Rattle.book_model.specs.Contents.{Contents}
use Rattle.rules_met.specs.Met.{IsLeftOn}
use Rattle.rules_met.specs.declared.answer.RuleAnswer.{RuleAnswer}
use Rattle.rules_met.specs.declared.answer.RuleAnswer.TheVariants.{Met, NotMet, Left}
use Rattle.pb_base.specs.Picked.{picked}
use Rattle.lost_cars.specs.Losses.{IsCar, LosesNone, Says, lost_rule, questions}
use Rattle.lost_cars.specs.declared.question.Question.{Question}

-- the formula so far, or one of these
abbrev pub any_rule_from : Rule → List Rule → Rule
any_rule_from so_far [] = so_far
any_rule_from so_far (r ∷ rs) = any_rule_from (either so_far r) rs

abbrev pub any_rule : List Rule → Rule
any_rule rs = any_rule_from never rs

abbrev pub none_rule : List Rule → Rule
none_rule rs = negation (any_rule rs)

-- a question that isn't asked loses no car, and the formula of one that is asked tells which are lost by it
abbrev pub IsAsked : Contents → Contents → ℕ → Question → List Question → Type 0
IsAsked own other day q [] = LosesNone own other day q
IsAsked own other day q (asked ∷ []) = (asked ≡ q) × Says own other day q (lost_rule own other q)
IsAsked own other day q (asked ∷ more ∷ rest) = ⊥

abbrev pub AreAsked : Contents → Contents → ℕ → List Question → Type 0
AreAsked own other day qs = InParts (IsAsked own other day) (questions own other) qs

-- over cars of the own book it is true just of those that are cars of the other
pub record IsCommonRule (own other : Contents) (day : ℕ) (f : Rule) : Type 0 where
  pub asked : List Question
  pub are : AreAsked own other day asked
  pub is : f ≡ none_rule (map (lost_rule own other) asked)

-- the search for a car of the own book that meets such a formula was left
pub record IsCommonLeft (own other : Contents) (day budget : ℕ) : Type 0 where
  pub rule : Rule
  pub common : IsCommonRule own other day rule
  pub left : IsLeftOn own day budget rule

pub record IsCommonCar (own other : Contents) (day : ℕ) (names : List (List ℕ)) : Type 0 where
  pub own_car : IsCar own day names
  pub other_car : IsCar other day names

-- the set that is told is that of the codes of the common car
abbrev pub IsCommonAnswer : Contents → Contents → ℕ → ℕ → RuleAnswer → Type 0
IsCommonAnswer own other day budget (Met x) = (length x ≡ length own.codes) × IsCommonCar own other day (picked own.codes x)
IsCommonAnswer own other day budget NotMet = (names : List (List ℕ)) → IsCommonCar own other day names → ⊥
IsCommonAnswer own other day budget Left = IsCommonLeft own other day budget
