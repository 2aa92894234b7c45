-- The questions that have to be asked.
--     HasSupplement own day f, HasConstruct ..    the own book has such an active rule, which isn't kept just where f is true
--     IsAsk own other day q f           the formula of a question, true over just the cars that are lost by it
--     IsPut own other day q asks        no car is lost by the question, or it is put among those that have to be asked
use Rattle.std.specs.Prelude.{◌≡◌, ℕ, true, List, [], ◌∷◌, Option, None, Some, length, slice_get}
use Rattle.pb_base.specs.InParts.{InParts}
use Rattle.pb_base.specs.Rule.{Rule}
use Rattle.book_model.specs.Activity.{is_within}
use Rattle.book_model.specs.Contents.{Contents}
use Rattle.book_model.specs.declared.record.Construct.{Construct}
use Rattle.book_model.specs.declared.record.Supplement.{Supplement}
use Rattle.rules_met.specs.Met.{RuleIsSmall}
use Rattle.lost_cars.specs.Losses.{LosesNone, Says, lost_rule}
use Rattle.lost_cars.specs.Violation.{firing, unmet}
use Rattle.lost_cars.specs.declared.asks.Ask.{Ask}
use Rattle.lost_cars.specs.declared.question.Question.{Question}

-- an active rule of the own book that isn't kept just where this formula is true
pub record HasSupplement (own : Contents) (day : ℕ) (f : Rule) : Type 0 where
  pub place : ℕ
  pub rule : Supplement
  pub there : slice_get own.supplements place ≡ Some rule
  pub active : is_within rule.from rule.until day ≡ true
  pub same : f ≡ firing rule

pub record HasConstruct (own : Contents) (day : ℕ) (f : Rule) : Type 0 where
  pub place : ℕ
  pub rule : Construct
  pub there : slice_get own.constructs place ≡ Some rule
  pub active : is_within rule.from rule.until day ≡ true
  pub same : f ≡ unmet rule.demand

pub record IsAsk (own other : Contents) (day : ℕ) (q : Question) (f : Rule) : Type 0 where
  pub is : f ≡ lost_rule own other q
  pub says : Says own other day q f
  pub fits : RuleIsSmall (length own.codes) f

abbrev pub IsRuled : Contents → Contents → ℕ → Question → Option Rule → Type 0
IsRuled own other day q None = LosesNone own other day q
IsRuled own other day q (Some f) = IsAsk own other day q f

abbrev pub ask_with : Question → Rule → Ask
ask_with q f = record { question = q; rule = f }

abbrev pub IsPut : Contents → Contents → ℕ → Question → List Ask → Type 0
IsPut own other day q [] = LosesNone own other day q
IsPut own other day q (a ∷ []) = (a.question ≡ q) × IsAsk own other day q a.rule
IsPut own other day q (a ∷ b ∷ more) = ⊥

abbrev pub ArePut : Contents → Contents → ℕ → List Question → List Ask → Type 0
ArePut own other day qs asks = InParts (IsPut own other day) qs asks
