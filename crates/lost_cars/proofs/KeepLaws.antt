-- Where no car is lost by any question, each car of the own book is one of the other.
use Rattle.std.proofs.Common.{◌≡◌, ℕ, zero, suc, ◌+◌, ◌<◌, Bool, true, false, not, ◌&&◌, ◌||◌, ◌==◌, List, [], ◌∷◌, ◌++◌, Option, Some, None, length, map, refl, sym, ap, subst, ◌∙◌, arith, inl, inr}
use Rattle.pb_base.proofs.PartLaws.{none_in_parts}
use Rattle.clausify.proofs.ListLaws.{all_first, all_last, all_weaker}
use Rattle.std.specs.List.{slice_get, list_any, range_with_len, AllByRecursion}
use Rattle.std.specs.Option.{option_map_or, is_none}
use Rattle.std.proofs.lemmas.Bool.{and_from, eq-eqb, false_from_ne_true, true≢false, cases_Bool}
use Rattle.std.proofs.lemmas.List.{length-map}
use Rattle.std.proofs.lemmas.Option.{slice_get_within}
use Rattle.pb_base.specs.InParts.{InParts}
use Rattle.pb_base.specs.NamedSet.{named}
use Rattle.pb_base.specs.Names.{same_name, place_in}
use Rattle.pb_base.proofs.NamedSets.{code_at_place}
use Rattle.book_model.specs.Contents.{Contents}
use Rattle.book_model.specs.Good.{is_good, is_closed, is_constructible, fires, breaks}
use Rattle.pb_base.specs.Picked.{AreNamed}
use Rattle.pb_base.proofs.Faultless.{same_self}
use Rattle.book_model.specs.declared.record.Construct.{Construct}
use Rattle.book_model.specs.declared.record.Supplement.{Supplement}
use Rattle.book_compare.proofs.NumberLaws.{not_there, cases_option}
use Rattle.pb_base.proofs.PickLaws.{either_true, code_named}
use Rattle.lost_cars.specs.Losses.{IsCar, is_missed, is_lost, LosesNone, IsLossNoted, AreLosses, KeepsCars, questions}
use Rattle.lost_cars.specs.declared.note.LossNote.{LossNote}
use Rattle.lost_cars.specs.declared.question.Question.{Question}
use Rattle.lost_cars.specs.declared.question.Question.TheVariants.{Fires, Breaks, Lacks}

module _ (P : Question → Type 0) where
  each_place : (f : ℕ → Question) (i n : ℕ) → AllByRecursion P (map f (range_with_len i n)) → (k : ℕ) → k < n → P (f (i + k))
  each_place f i zero h k within = absurd (omega (arith, within))
  each_place f i (suc n) h zero within = let e : i ≡ i + zero = omega arith in subst (λ (p : ℕ). P (f p)) e h.0
  each_place f i (suc n) h (suc k) within =
      let e : i + 1 + k ≡ i + suc k = omega arith in subst (λ (p : ℕ). P (f p)) e (each_place f (i + 1) n h.1 k (omega (arith, within)))

  each_first : (f : ℕ → Question) (n : ℕ) → AllByRecursion P (map f (range_with_len 0 n)) → (k : ℕ) → k < n → P (f k)
  each_first f n h k within = let e : 0 + k ≡ k = omega arith in subst (λ (p : ℕ). P (f p)) e (each_place f 0 n h k within)

none_any : {X : Type 0} (p : X → Bool) (xs : List X) → ((k : ℕ) (x : X) → slice_get xs k ≡ Some x → p x ≡ false) → list_any p xs ≡ false
none_any p [] each = refl
none_any p (x ∷ xs) each = ap (λ t. t || list_any p xs) (each 0 x refl) ∙ none_any p xs (λ k y is. each (suc k) y is)

-- the other book doesn't lose the car by the question
abbrev pub KeepsIt : Contents → Contents → ℕ → List (List ℕ) → Question → Type 0
KeepsIt own other day names q = is_lost own other day q names ≡ false

module _ (own other : Contents) (day : ℕ) (names : List (List ℕ)) (car : IsCar own day names) (none : AllByRecursion (KeepsIt own other day names) (questions own other)) where
  abbrev y : List Bool
  y = named other.codes names

  abbrev firing : List Question
  firing = map (λ p. Fires p) (range_with_len 0 (length other.supplements))

  abbrev breaking : List Question
  breaking = map (λ p. Breaks p) (range_with_len 0 (length other.constructs))

  abbrev lacking : List Question
  lacking = map (λ p. Lacks p) (range_with_len 0 (length own.codes))

  none_fires : (k : ℕ) (s : Supplement) → slice_get other.supplements k ≡ Some s → fires day y s ≡ false
  none_fires k s is =
      rw is at (each_first (KeepsIt own other day names) (λ p. Fires p) (length other.supplements)
      (all_first (KeepsIt own other day names) firing breaking (all_first (KeepsIt own other day names) (firing ++ breaking) lacking none)) k (slice_get_within other.supplements k s is))

  none_breaks : (k : ℕ) (c : Construct) → slice_get other.constructs k ≡ Some c → breaks day y c ≡ false
  none_breaks k c is =
      rw is at (each_first (KeepsIt own other day names) (λ p. Breaks p) (length other.constructs)
      (all_last (KeepsIt own other day names) firing breaking (all_first (KeepsIt own other day names) (firing ++ breaking) lacking none)) k (slice_get_within other.constructs k c is))

  none_missed : (k : ℕ) (name : List ℕ) → slice_get own.codes k ≡ Some name → is_missed other names name ≡ false
  none_missed k name is =
      rw is at (each_first (KeepsIt own other day names) (λ p. Lacks p) (length own.codes)
      (all_last (KeepsIt own other day names) (firing ++ breaking) lacking none) k (slice_get_within own.codes k name is))

  kept_good : is_good other day y ≡ true
  kept_good =
      let closed : is_closed other day y ≡ true = ap not (none_any (fires day y) other.supplements none_fires) in
      let built : is_constructible other day y ≡ true = ap not (none_any (breaks day y) other.constructs none_breaks) in
      let counted : (length y == length other.codes) ≡ true = eq-eqb (length y) (length other.codes) (length-map other.codes (λ c. list_any (same_name c) names)) in
      and_from _ _ (and_from _ _ closed built) counted

  -- each name of the car is a code of the other book
  is_code : (name : List ℕ) → list_any (same_name name) own.codes ≡ true → list_any (same_name name) names ≡ true → list_any (same_name name) other.codes ≡ true
  is_code name known had = elim (cases_option (place_in own.codes name)) [
    | inl none ↦ absurd (true≢false (sym known ∙ not_there own.codes name none))
    | inr own_place ↦
        let missed = none_missed own_place.0 name (code_at_place own.codes name own_place.0 own_place.1) in
        elim (cases_option (place_in other.codes name)) [
          | inl none ↦ absurd (true≢false (sym had ∙ rw none at missed))
          | inr place ↦ code_named other.codes name place.0 place.1
        ]
  ]

  kept_named : AreNamed other.codes names
  kept_named = all_codes names (λ name had. had) car.named_there
    where
      all_codes : (ns : List (List ℕ)) → ((name : List ℕ) → list_any (same_name name) ns ≡ true → list_any (same_name name) names ≡ true) → AreNamed own.codes ns → AreNamed other.codes ns
      all_codes [] among are = tt
      all_codes (n ∷ ns) among are = (
        is_code n are.0 (among n (ap (λ t. t || list_any (same_name n) ns) (same_self n))),
        all_codes ns (λ name had. among name (either_true (same_name name n) (list_any (same_name name) ns) had)) are.1,
      )

-- each car of the own book that isn't lost by any question is one of the other
pub kept_car : (own other : Contents) (day : ℕ) (names : List (List ℕ)) → IsCar own day names → AllByRecursion (KeepsIt own other day names) (questions own other) → IsCar other day names
kept_car own other day names car none =
    record { distinct = car.distinct; named_there = kept_named own other day names car none; good = kept_good own other day names car none }

pub keeps_cars : (own other : Contents) (day budget : ℕ) (notes : List LossNote) → AreLosses own other day budget notes → notes ≡ [] → KeepsCars own other day
keeps_cars own other day budget notes told empty = λ names car.
    kept_car own other day names car
    (all_weaker (LosesNone own other day) (KeepsIt own other day names) (λ q h. h names car) (questions own other)
    (none_in_parts (IsLossNoted own other day budget) (questions own other) notes empty told))
