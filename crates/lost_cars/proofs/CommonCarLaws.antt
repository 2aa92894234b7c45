-- The formula of common cars says which cars of the own book are cars of the other, and what an answer to it says.
use Rattle.std.proofs.Common.{◌≡◌, ℕ, suc, ◌+◌, ◌≤◌, ◌^◌, arith, Bool, true, false, not, ◌&&◌, ◌||◌, ◌==◌, List, [], ◌∷◌, ◌++◌, Option, Some, None, length, map, refl, sym, ap, subst, ◌∙◌, inl, inr}
use Rattle.pb_base.proofs.PickLaws.{named_own}
use Rattle.std.specs.Prelude.{Result, Ok, Err, IfOk}
use Rattle.std.specs.List.{slice_get, slice_index_or, list_any, AllByRecursion, AllZip, IsDistinct}
use Rattle.std.specs.Option.{option_map_or, is_none}
use Rattle.std.proofs.lemmas.Bool.{and_parts, and_from, or_parts, not-true, true≢false}
use Rattle.std.proofs.Math.Bool.{or_assoc, or-false}
use Rattle.std.proofs.lemmas.List.{length-append, length-map}
use Rattle.pb_base.specs.InParts.{InParts}
use Rattle.pb_base.specs.NamedSet.{named}
use Rattle.pb_base.specs.Names.{same_name, place_in}
use Rattle.pb_base.specs.Node.{size}
use Rattle.pb_base.specs.Rule.{Rule, codes_below, either, holds, never}
use Rattle.book_model.specs.Contents.{Contents}
use Rattle.book_model.specs.Good.{is_good, is_closed, is_constructible, fires, breaks}
use Rattle.rules_met.specs.Met.{IsAnswer, RuleIsSmall}
use Rattle.rules_met.specs.declared.answer.RuleAnswer.{RuleAnswer}
use Rattle.rules_met.specs.declared.answer.RuleAnswer.TheVariants.{Met, NotMet, Left}
use Rattle.pb_base.specs.Picked.{picked}
use Rattle.book_compare.proofs.NumberLaws.{cases_option, not_there, not_named}
use Rattle.lost_cars.specs.Asks.{IsPut, ArePut}
use Rattle.lost_cars.specs.CommonCar.{any_rule_from, none_rule, IsAsked, IsCommonAnswer, IsCommonRule}
use Rattle.lost_cars.specs.Losses.{IsCar, Says, is_missed, is_lost, lost_rule, questions}
use Rattle.lost_cars.specs.declared.asks.Ask.{Ask}
use Rattle.lost_cars.specs.declared.question.Question.{Question}
use Rattle.lost_cars.specs.declared.question.Question.TheVariants.{Fires, Breaks, Lacks}
use Rattle.lost_cars.proofs.AskLaws.{none_at}
use Rattle.lost_cars.proofs.KeepLaws.{KeepsIt, kept_car}
use Rattle.lost_cars.proofs.NotedLaws.{car_of_set}

-- ---- the formula

any_holds : (f : Rule) (rs : List Rule) (x : List Bool) → holds (any_rule_from f rs) x ≡ (holds f x || list_any (λ r. holds r x) rs)
any_holds f [] x = sym (or-false (holds f x))
any_holds f (r ∷ rs) x = any_holds (either f r) rs x ∙ or_assoc (holds f x) (holds r x) (list_any (λ r. holds r x) rs)

none_holds : (rs : List Rule) (x : List Bool) → holds (none_rule rs) x ≡ not (list_any (λ r. holds r x) rs)
none_holds rs x = ap not (any_holds never rs x)

any_below : (n : ℕ) (f : Rule) (rs : List Rule) → codes_below n f ≡ true → AllByRecursion (RuleIsSmall n) rs → codes_below n (any_rule_from f rs) ≡ true
any_below n f [] below small = below
any_below n f (r ∷ rs) below small = any_below n (either f r) rs (and_from (codes_below n f) (codes_below n r) below small.0.in_range) small.1

pub none_fits : (n : ℕ) (f : Rule) (rs : List Rule) → f ≡ none_rule rs → AllByRecursion (RuleIsSmall n) rs → codes_below n f ≡ true
none_fits n f rs is small = ap (codes_below n) is ∙ any_below n never rs refl small

-- one formula more
pub any_more : (f : Rule) (rs : List Rule) (r : Rule) → any_rule_from f (rs ++ r ∷ []) ≡ either (any_rule_from f rs) r
any_more f [] r = refl
any_more f (s ∷ rs) r = any_more (either f s) rs r

-- ---- what it says of a car

module _ (own other : Contents) (day : ℕ) (names : List (List ℕ)) (car : IsCar own day names) where
  abbrev x : List Bool
  x = named own.codes names

  abbrev any_true : List Question → Bool
  any_true qs = list_any (λ (r : Rule). holds r x) (map (lost_rule own other) qs)

  abbrev own_true : Question → Bool
  own_true q = holds (lost_rule own other q) x

  none_lost : (all asked : List Question) → InParts (IsAsked own other day) all asked → any_true asked ≡ false → AllByRecursion (KeepsIt own other day names) all
  none_lost [] asked are none = tt
  none_lost (q ∷ all) asked are none = by are.0 are.1 are.2 are.3 (λ h. none_lost all are.1 are.4 h)
    where
      by : (first rest : List Question) → asked ≡ first ++ rest → IsAsked own other day q first → (any_true rest ≡ false → AllByRecursion (KeepsIt own other day names) all)
          → AllByRecursion (KeepsIt own other day names) (q ∷ all)
      by [] rest is here later = (here names car, later (sym (ap any_true is) ∙ none))
      by (a ∷ []) rest is here later =
          let parts = or_parts (own_true a) (any_true rest) (sym (ap any_true is) ∙ none) in
          (sym (here.1 names car.named_there) ∙ ap own_true (sym here.0) ∙ parts.0, later parts.1)
      by (a ∷ b ∷ more) rest is here later = absurd here

  none_true : (all asked : List Question) → InParts (IsAsked own other day) all asked → ((q : Question) → is_lost own other day q names ≡ false) → any_true asked ≡ false
  none_true [] asked are kept = ap any_true are
  none_true (q ∷ all) asked are kept = by are.0 are.1 are.2 are.3 (none_true all are.1 are.4 kept)
    where
      by : (first rest : List Question) → asked ≡ first ++ rest → IsAsked own other day q first → any_true rest ≡ false → any_true asked ≡ false
      by [] rest is here later = ap any_true is ∙ later
      by (a ∷ []) rest is here later = rw (is, here.0, here.1 names car.named_there, kept q) later
      by (a ∷ b ∷ more) rest is here later = absurd here

-- a car of the other book isn't lost
module _ (own other : Contents) (day : ℕ) (names : List (List ℕ)) (kept : IsCar other day names) where
  abbrev y : List Bool
  y = named other.codes names

  whole : ((is_closed other day y && is_constructible other day y) ≡ true) × ((length y == length other.codes) ≡ true)
  whole = and_parts (is_closed other day y && is_constructible other day y) (length y == length other.codes) kept.good

  none_fires : list_any (fires day y) other.supplements ≡ false
  none_fires = not-true (list_any (fires day y) other.supplements) (and_parts (is_closed other day y) (is_constructible other day y) whole.0).0

  none_breaks : list_any (breaks day y) other.constructs ≡ false
  none_breaks = not-true (list_any (breaks day y) other.constructs) (and_parts (is_closed other day y) (is_constructible other day y) whole.0).1

  pub not_lost : (q : Question) → is_lost own other day q names ≡ false
  not_lost (Fires place) = elim (cases_option (slice_get other.supplements place)) [
    | inl none ↦ rw none refl
    | inr some ↦ rw some.1 (none_at (fires day y) other.supplements place some.0 some.1 none_fires)
  ]
  not_lost (Breaks place) = elim (cases_option (slice_get other.constructs place)) [
    | inl none ↦ rw none refl
    | inr some ↦ rw some.1 (none_at (breaks day y) other.constructs place some.0 some.1 none_breaks)
  ]
  not_lost (Lacks place) = elim (cases_option (slice_get own.codes place)) [
    | inl none ↦ rw none refl
    | inr some ↦
        let name : List ℕ = some.0 in
        elim (cases_option (place_in other.codes some.0)) [
          | inl none ↦ rw (some.1, none) (not_named other.codes names some.0 kept.named_there (not_there other.codes some.0 none))
          | inr found ↦ rw (some.1, found.1) refl
        ]
  ]

-- over cars of the own book, the formula is true just of those that are cars of the other
abbrev TellsCommon : Contents → Contents → ℕ → Rule → Type 0
TellsCommon own other day f =
    (names : List (List ℕ)) → IsCar own day names
    → (holds f (named own.codes names) ≡ true → IsCar other day names) × (IsCar other day names → holds f (named own.codes names) ≡ true)

tells_common : (own other : Contents) (day : ℕ) (f : Rule) → IsCommonRule own other day f → TellsCommon own other day f
tells_common own other day f common = λ names car.
    let x : List Bool = named own.codes names in
    let rules : List Rule = map (lost_rule own other) common.asked in
    let says : holds f x ≡ not (list_any (λ (r : Rule). holds r x) rules) = rw common.is (none_holds rules x) in (
      λ h. kept_car own other day names car
          (none_lost own other day names car (questions own other) common.asked common.are (not-true (list_any (λ (r : Rule). holds r x) rules) (sym says ∙ h))),
      λ kept. rw (says, none_true own other day names car (questions own other) common.asked common.are (not_lost own other day names kept)) refl,
    )

-- ---- the questions that were put are those that are asked

abbrev asked_of : List Ask → List Question
asked_of asks = map (λ (a : Ask). a.question) asks

abbrev rules_of : List Ask → List Rule
rules_of asks = map (λ (a : Ask). a.rule) asks

module _ (own other : Contents) (day : ℕ) where
  abbrev lost_rules : List Ask → List Rule
  lost_rules asks = map (lost_rule own other) (asked_of asks)

  are_asked : (all : List Question) (asks : List Ask) → ArePut own other day all asks → InParts (IsAsked own other day) all (asked_of asks)
  are_asked [] asks put = ap asked_of put
  are_asked (q ∷ all) asks put = by put.0 put.1 put.2 put.3 (are_asked all put.1 put.4)
    where
      by : (first rest : List Ask) → asks ≡ first ++ rest → IsPut own other day q first → InParts (IsAsked own other day) all (asked_of rest)
          → InParts (IsAsked own other day) (q ∷ all) (asked_of asks)
      by [] rest is none later = ([], asked_of rest, ap asked_of is, none, later)
      by (a ∷ []) rest is here later =
          (a.question ∷ [], asked_of rest, ap asked_of is, (here.0, subst (Says own other day q) here.1.is here.1.says), later)
      by (a ∷ b ∷ more) rest is here later = absurd here

  are_rules : (all : List Question) (asks : List Ask) → ArePut own other day all asks → rules_of asks ≡ lost_rules asks
  are_rules [] asks put = ap rules_of put ∙ sym (ap lost_rules put)
  are_rules (q ∷ all) asks put = by put.0 put.1 put.2 put.3 (are_rules all put.1 put.4)
    where
      by : (first rest : List Ask) → asks ≡ first ++ rest → IsPut own other day q first → rules_of rest ≡ lost_rules rest → rules_of asks ≡ lost_rules asks
      by [] rest is none later = ap rules_of is ∙ later ∙ sym (ap lost_rules is)
      by (a ∷ []) rest is here later =
          rw (is, here.1.is, ← here.0, later) refl
      by (a ∷ b ∷ more) rest is here later = absurd here

-- the formula that is given back
pub rule_common : {E : Type 0} (own other : Contents) (day : ℕ) (asks : List Ask) (f : Rule) (made : Result Rule E) → ArePut own other day (questions own other) asks
    → f ≡ none_rule (map (λ (a : Ask). a.rule) asks) → IfOk made (λ g. g ≡ f) → IfOk made (IsCommonRule own other day)
rule_common own other day asks f (Ok g) put is same = record {
  asked = asked_of asks;
  are = are_asked own other day (questions own other) asks put;
  is = same ∙ is ∙ ap none_rule (are_rules own other day (questions own other) asks put);
}
rule_common own other day asks f (Err why) put is same = tt

pub rule_fits : {E : Type 0} (n : ℕ) (f : Rule) (rs : List Rule) (made : Result Rule E) → f ≡ none_rule rs → AllByRecursion (RuleIsSmall n) rs → IfOk made (λ g. g ≡ f)
    → IfOk made (λ g. size g ≤ 2 ^ 30) → IfOk made (RuleIsSmall n)
rule_fits n f rs (Ok g) is small same few = record { in_range = none_fits n g rs (same ∙ is) small; small = few }
rule_fits n f rs (Err why) is small same few = tt

pub common_answered : (own other : Contents) (day budget : ℕ) (f : Rule) (answer : RuleAnswer) → IsDistinct same_name own.codes → IsCommonRule own other day f
    → IsAnswer own day budget f answer → IsCommonAnswer own other day budget answer
common_answered own other day budget f (Met x) apart common met =
    let parts = and_parts (is_good own day x) (holds f x) met.1 in
    let names : List (List ℕ) = picked own.codes x in
    let car : IsCar own day names = car_of_set own day x apart parts.0 in
    (met.0, record { own_car = car; other_car = (tells_common own other day f common names car).0 (ap (holds f) (named_own own.codes x met.0 apart) ∙ parts.1) })
common_answered own other day budget f NotMet apart common none = λ names car.
    let x : List Bool = named own.codes names in
    true≢false (sym (and_from (is_good own day x) (holds f x) car.own_car.good ((tells_common own other day f common names car.own_car).1 car.other_car))
    ∙ none x (length-map own.codes (λ c. list_any (same_name c) names)))
common_answered own other day budget f Left apart common left = record { rule = f; common = common; left = left }

-- the answer to one rule
pub one_count : (b : Contents) (day budget : ℕ) (f : Rule) (answers : List RuleAnswer) → AllZip (IsAnswer b day budget) (f ∷ []) answers → length answers ≡ 1
one_count b day budget f [] h = absurd h
one_count b day budget f (a ∷ []) h = refl
one_count b day budget f (a ∷ c ∷ more) h = absurd h.1

pub one_answer : (b : Contents) (day budget : ℕ) (f : Rule) (answers : List RuleAnswer) → AllZip (IsAnswer b day budget) (f ∷ []) answers
    → IsAnswer b day budget f (slice_index_or answers 0 NotMet)
one_answer b day budget f [] h = absurd h
one_answer b day budget f (a ∷ []) h = h.0
one_answer b day budget f (a ∷ c ∷ more) h = absurd h.1

pub only_one : (answers rest : List RuleAnswer) (last : RuleAnswer) → length answers ≡ 1 → answers ≡ rest ++ last ∷ [] → last ≡ slice_index_or answers 0 NotMet
only_one answers [] last count is = sym (ap (λ (as_ : List RuleAnswer). slice_index_or as_ 0 NotMet) is)
only_one answers (a ∷ rest) last count is =
    let more : length answers ≡ suc (length rest + 1) = ap length is ∙ ap suc (length-append rest (last ∷ [])) in absurd (omega (arith, count, more))
