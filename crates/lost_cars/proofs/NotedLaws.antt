-- The notes on the questions that were asked, and nothing on the others, are the notes on all questions.
use Rattle.std.proofs.Common.{◌≡◌, ℕ, zero, suc, ◌+◌, ◌<◌, ◌≤◌, Bool, true, false, ◌&&◌, List, [], ◌∷◌, ◌++◌, length, map, get_or, drop, refl, sym, ap, subst, ◌∙◌, arith, All, append_assoc, append-nil}
use Rattle.std.specs.List.{list_any, IsDistinct, AllByRecursion, AllZip}
use Rattle.std.proofs.lemmas.Bool.{and_parts, false_from_ne_true, and_from, true≢false}
use Rattle.std.proofs.lemmas.List.{drop_more, ext_get_or, length-map, drop_all}
use Rattle.std.proofs.lemmas.List.Elements.{All-from_recursion}
use Rattle.pb_base.specs.InParts.{InParts}
use Rattle.pb_base.specs.NamedSet.{named}
use Rattle.pb_base.specs.Names.{same_name}
use Rattle.pb_base.specs.Rule.{Rule, holds}
use Rattle.book_model.specs.Contents.{Contents}
use Rattle.book_model.specs.Good.{is_good}
use Rattle.clausify.proofs.ItemLaws.{length_from_good}
use Rattle.rules_met.specs.Met.{IsAnswer, IsLeftOn, RuleIsSmall}
use Rattle.rules_met.specs.declared.answer.RuleAnswer.{RuleAnswer}
use Rattle.rules_met.specs.declared.answer.RuleAnswer.TheVariants.{Met, NotMet, Left}
use Rattle.pb_base.specs.Picked.{AreNamed, picked}
use Rattle.pb_base.proofs.PickLaws.{picked_distinct, picked_named, named-picked, named_own}
use Rattle.lost_cars.specs.Losses.{IsCar, is_lost, IsLostBy, LosesNone, IsLossNoted, QuestionFits, Says, cause_of}
use Rattle.lost_cars.specs.Asks.{IsAsk, IsPut, ArePut}
use Rattle.lost_cars.specs.Noting.{notes_for, notes_by, AreAnswered}
use Rattle.lost_cars.specs.declared.asks.Ask.{Ask}
use Rattle.lost_cars.specs.declared.note.LossNote.{LossNote}
use Rattle.lost_cars.specs.declared.question.Question.{Question}

-- a good set of a book's codes is a car by its names
pub car_of_set : (b : Contents) (day : ℕ) (x : List Bool) → IsDistinct same_name b.codes → is_good b day x ≡ true → IsCar b day (picked b.codes x)
car_of_set b day x apart good = record {
  distinct = picked_distinct 0 x b.codes apart;
  named_there = picked_named 0 x b.codes;
  good = ap (is_good b day) (named_own b.codes x (length_from_good b day x good) apart) ∙ good;
}

module _ (own other : Contents) (day budget : ℕ) (apart : IsDistinct same_name own.codes) where
  lost_by_set : (q : Question) (f : Rule) (x : List Bool) → IsAsk own other day q f → length x ≡ length own.codes → (is_good own day x && holds f x) ≡ true
      → IsLostBy own other day q (picked own.codes x)
  lost_by_set q f x ask counted shown =
      let parts = and_parts (is_good own day x) (holds f x) shown in
      record {
        car = car_of_set own day x apart parts.0;
        lost = sym (ask.says (picked own.codes x) (picked_named 0 x own.codes)) ∙ ap (holds f) (named_own own.codes x counted apart) ∙ parts.1;
      }

  none_lost : (q : Question) (f : Rule) → IsAsk own other day q f → ((x : List Bool) → length x ≡ length own.codes → (is_good own day x && holds f x) ≡ false) → LosesNone own other day q
  none_lost q f ask none = λ names car.
      let x : List Bool = named own.codes names in
      sym (ask.says names car.named_there)
      ∙ false_from_ne_true (holds f x) (λ yes_.
      true≢false (sym (and_from (is_good own day x) (holds f x) car.good yes_) ∙ none x (length-map own.codes (λ c. list_any (same_name c) names))))

  -- what is told of a question by a right answer to its formula
  noted : (q : Question) (f : Rule) (answer : RuleAnswer) → IsAsk own other day q f → IsAnswer own day budget f answer → IsLossNoted own other day budget q (notes_for own other q answer)
  noted q f (Met x) ask met = (refl, met.0, lost_by_set q f x ask met.0 met.1)
  noted q f NotMet ask none = none_lost q f ask none
  noted q f Left ask left =
      (refl, record { says = rw ask.is at ask.says; left = rw ask.is at left })

  abbrev AreRight : List Ask → List RuleAnswer → Type 0
  AreRight asks answers = AllZip (IsAnswer own day budget) (map (λ (a : Ask). a.rule) asks) answers

  abbrev notes_on : List Ask → List RuleAnswer → List LossNote
  notes_on asks answers = notes_by own other (map (λ (a : Ask). a.question) asks) answers

  noted_step : (q : Question) (all : List Question) (asks : List Ask) (answers : List RuleAnswer) (first rest : List Ask)
      → ((more : List RuleAnswer) → AreRight rest more → InParts (IsLossNoted own other day budget) all (notes_on rest more))
      → asks ≡ first ++ rest → IsPut own other day q first → AreRight asks answers → InParts (IsLossNoted own other day budget) (q ∷ all) (notes_on asks answers)
  noted_step q all asks answers [] rest later is none right = (
    [],
    notes_on asks answers,
    refl,
    none,
    rw is (later answers (rw is at right)),
  )
  noted_step q all asks [] (a ∷ []) rest later is here right =
      let lacking : AreRight (a ∷ rest) [] = rw is at right in absurd lacking
  noted_step q all asks (answer ∷ answers) (a ∷ []) rest later is here right =
      let parts : AreRight (a ∷ rest) (answer ∷ answers) = rw is at right in (
        notes_for own other a.question answer,
        notes_on rest answers,
        ap (λ (ds : List Ask). notes_on ds (answer ∷ answers)) is,
        rw here.0 (noted q a.rule answer here.1 parts.0),
        later answers parts.1,
      )
  noted_step q all asks answers (a ∷ b ∷ more) rest later is here right = absurd here

  noted_on : (all : List Question) (asks : List Ask) (answers : List RuleAnswer) → ArePut own other day all asks → AreRight asks answers
      → InParts (IsLossNoted own other day budget) all (notes_on asks answers)
  noted_on [] asks answers put right = ap (λ (ds : List Ask). notes_on ds answers) put
  noted_on (q ∷ all) asks answers put right = noted_step q all asks answers put.0 put.1 (λ more h. noted_on all put.1 more put.4 h) put.2 put.3 right

  pub all_noted : (all : List Question) (asks : List Ask) (notes : List LossNote) → ArePut own other day all asks
      → AreAnswered own other day budget (map (λ (a : Ask). a.question) asks) (map (λ (a : Ask). a.rule) asks) notes → InParts (IsLossNoted own other day budget) all notes
  all_noted all asks notes put h = rw h.notes_are (noted_on all asks h.answers put h.right)

-- a right answer for each
pub answers_count : (b : Contents) (day budget : ℕ) (fs : List Rule) (answers : List RuleAnswer) → AllZip (IsAnswer b day budget) fs answers → length answers ≡ length fs
answers_count b day budget [] [] right = refl
answers_count b day budget [] (a ∷ answers) right = absurd right
answers_count b day budget (f ∷ fs) [] right = absurd right
answers_count b day budget (f ∷ fs) (a ∷ answers) right = ap suc (answers_count b day budget fs answers right.1)

-- one question more is told of
module _ (own other : Contents) (qs : List Question) (answers : List RuleAnswer) (i : ℕ) where
  pub notes_more : (d : Question) (e : RuleAnswer) (notes more all : List LossNote) → i < length qs → i < length answers
      → more ≡ notes ++ notes_for own other (get_or qs i d) (get_or answers i e) → notes ++ notes_by own other (drop i qs) (drop i answers) ≡ all
      → more ++ notes_by own other (drop (i + 1) qs) (drop (i + 1) answers) ≡ all
  notes_more d e notes more all within own_within is so_far =
      rw (is, append_assoc) (rw (drop_more qs i d within, drop_more answers i e own_within) at so_far)

  pub notes_ended : (notes all : List LossNote) → length qs ≤ i → notes ++ notes_by own other (drop i qs) (drop i answers) ≡ all → notes ≡ all
  notes_ended notes all past so_far =
      rw (drop_all i qs past, append-nil) at so_far

-- the questions that are put fit, and so do their formulas
abbrev pub AskedFit : Contents → Contents → List Ask → Type 0
AskedFit own other ds = AllByRecursion (QuestionFits own other) (map (λ (a : Ask). a.question) ds) × AllByRecursion (RuleIsSmall (length own.codes)) (map (λ (a : Ask). a.rule) ds)

pub put_fit : (own other : Contents) (day : ℕ) (all : List Question) (asks : List Ask) → AllByRecursion (QuestionFits own other) all → ArePut own other day all asks → AskedFit own other asks
put_fit own other day [] asks fit put = rw put (tt, tt)
put_fit own other day (q ∷ all) asks fit put = by put.0 put.1 put.2 put.3 (put_fit own other day all put.1 fit.1 put.4)
  where
    by : (first rest : List Ask) → asks ≡ first ++ rest → IsPut own other day q first → AskedFit own other rest → AskedFit own other asks
    by [] rest is none later = rw is later
    by (a ∷ []) rest is here later = rw is ((rw here.0 fit.0, later.0), (here.1.fits, later.1))
    by (a ∷ b ∷ more) rest is h later = absurd h

pub all_fit : (own other : Contents) (day : ℕ) (all : List Question) (asks : List Ask) → AllByRecursion (QuestionFits own other) all → ArePut own other day all asks
    → All (QuestionFits own other) (map (λ (a : Ask). a.question) asks) × All (RuleIsSmall (length own.codes)) (map (λ (a : Ask). a.rule) asks)
all_fit own other day all asks fit put =
    let both = put_fit own other day all asks fit put in (
      All-from_recursion (QuestionFits own other) (map (λ (a : Ask). a.question) asks) both.0,
      All-from_recursion (RuleIsSmall (length own.codes)) (map (λ (a : Ask). a.rule) asks) both.1,
    )

-- no more are asked than there are
pub put_count : (own other : Contents) (day : ℕ) (all : List Question) (asks : List Ask) → ArePut own other day all asks → length asks ≤ length all
put_count own other day [] asks put = let e : length asks ≡ 0 = ap length put in omega (arith, e)
put_count own other day (q ∷ all) asks put = by put.0 put.1 put.2 put.3 (put_count own other day all put.1 put.4)
  where
    by : (first rest : List Ask) → asks ≡ first ++ rest → IsPut own other day q first → length rest ≤ length all → length asks ≤ suc (length all)
    by [] rest is none later = let e : length asks ≡ length rest = ap length is in omega (arith, e, later)
    by (a ∷ []) rest is here later = let e : length asks ≡ suc (length rest) = ap length is in omega (arith, e, later)
    by (a ∷ b ∷ more) rest is h later = absurd h
