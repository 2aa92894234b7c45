-- Which cars are told.
use Rattle.std.proofs.Common.{inl, inr, ℕ, List, [], ◌∷◌, ◌++◌, sym, ◌∙◌}
use Rattle.std.proofs.lemmas.Bool.{true≢false}
use Rattle.std.specs.List.{AllByRecursion}
use Rattle.book_model.specs.Contents.{Contents}
use Rattle.rules_met.specs.declared.answer.RuleAnswer.{RuleAnswer}
use Rattle.rules_met.specs.declared.answer.RuleAnswer.TheVariants.{Met, NotMet, Left}
use Rattle.lost_cars.specs.CommonCar.{IsCommonAnswer}
use Rattle.lost_cars.specs.Losses.{AreLosses, IsLossNoted, cause_of, is_lost, questions}
use Rattle.lost_cars.specs.declared.note.Cause.{Cause}
use Rattle.lost_cars.specs.declared.note.LossNote.{LossNote}
use Rattle.lost_cars.specs.declared.note.LossNote.TheVariants.{Lost, Undecided}
use Rattle.comparison_guards.specs.Cars.{IsCommonIfMet, IsOwnIfLost, IsToldIfLost, IsToldOf}
use Rattle.comparison_guards.proofs.PartsHave.{parts_all, parts_each}

told_first : (cause : Cause) (one more : List LossNote) → IsToldOf cause one → IsToldOf cause (one ++ more)
told_first cause [] more told = absurd told
told_first cause (note ∷ one) more (inl here) = inl here
told_first cause (note ∷ one) more (inr later) = inr (told_first cause one more later)

told_later : (cause : Cause) (one more : List LossNote) → IsToldOf cause more → IsToldOf cause (one ++ more)
told_later cause [] more told = told
told_later cause (note ∷ one) more told = inr (told_later cause one more told)

module _ (own other : Contents) (day budget : ℕ) where
  noted_own : (q : _) (notes : List LossNote) → IsLossNoted own other day budget q notes → AllByRecursion (IsOwnIfLost own day) notes
  noted_own q [] h = tt
  noted_own q (Lost cause x ∷ []) h = (h.2.car, tt)
  noted_own q (Undecided cause ∷ []) h = (tt, tt)
  noted_own q (note ∷ more ∷ notes) h = absurd h

  pub own_lost : (notes : List LossNote) → AreLosses own other day budget notes → AllByRecursion (IsOwnIfLost own day) notes
  own_lost notes h = parts_all (IsLossNoted own other day budget) (IsOwnIfLost own day) noted_own (questions own other) notes h

  noted_told : (q : _) (notes : List LossNote) → IsLossNoted own other day budget q notes → IsToldIfLost own day (is_lost own other day q) (cause_of own other q) notes
  noted_told q [] h = λ names car lost. absurd (true≢false (sym lost ∙ h names car))
  noted_told q (Lost cause x ∷ []) h = λ _ _ _. inl h.0
  noted_told q (Undecided cause ∷ []) h = λ _ _ _. inl h.0
  noted_told q (note ∷ more ∷ notes) h = absurd h

  pub each_told : (notes : List LossNote) → AreLosses own other day budget notes
      → AllByRecursion (λ q. IsToldIfLost own day (is_lost own other day q) (cause_of own other q) notes) (questions own other)
  each_told notes h =
      parts_each (IsLossNoted own other day budget) (λ q ns. IsToldIfLost own day (is_lost own other day q) (cause_of own other q) ns) noted_told
      (λ q one more told names car lost. told_first (cause_of own other q) one more (told names car lost))
      (λ q one more told names car lost. told_later (cause_of own other q) one more (told names car lost)) (questions own other) notes h

pub common_if_met : (own other : Contents) (day budget : ℕ) (answer : RuleAnswer) → IsCommonAnswer own other day budget answer → IsCommonIfMet own other day answer
common_if_met own other day budget (Met x) h = (h.1.own_car, h.1.other_car)
common_if_met own other day budget NotMet h = tt
common_if_met own other day budget Left h = tt
