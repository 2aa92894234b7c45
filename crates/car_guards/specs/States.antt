-- What is told of codes beside the chosen ones, as a buyer takes it.
--     IsCarOf b day chosen x         a good set that has the chosen codes
--     HasChosen b day chosen f       where states are told, there is one
--     AreOpen b day chosen f         of an open code one has it, and another hasn't
--     IsGone b day chosen f          where nothing is left, there is none
--     AreForced b day chosen f       each has each forced code, and none has an excluded one
use Rattle.std.specs.Prelude.{◌≡◌, ℕ, Bool, true, false, List, Some, slice_get}
use Rattle.std.specs.List.{list_all}
use Rattle.pb_base.specs.Sets.{has}
use Rattle.book_model.specs.Contents.{Contents}
use Rattle.book_model.specs.Good.{is_good}
use Rattle.left_cars.specs.declared.states.CodeState.TheVariants.{Open, Forced, Excluded}
use Rattle.left_cars.specs.declared.states.Freedom.{Freedom}
use Rattle.left_cars.specs.declared.states.Freedom.TheVariants.{NoneLeft, NotDecided, Codes}

pub record IsCarOf (b : Contents) (day : ℕ) (chosen : List ℕ) (x : List Bool) : Type 0 where
  pub good : is_good b day x ≡ true
  pub has_chosen : list_all (has x) chosen ≡ true

abbrev pub HasChosen : Contents → ℕ → List ℕ → Freedom → Type 0
HasChosen b day chosen NoneLeft = Unit {0}
HasChosen b day chosen (NotDecided learnt) = Unit {0}
HasChosen b day chosen (Codes states) = (x : List Bool) × IsCarOf b day chosen x

pub record IsShownAs (b : Contents) (day : ℕ) (chosen : List ℕ) (place : ℕ) (value : Bool) : Type 0 where
  pub set : List Bool
  pub car : IsCarOf b day chosen set
  pub shows : has set place ≡ value

abbrev pub AreOpen : Contents → ℕ → List ℕ → Freedom → Type 0
AreOpen b day chosen NoneLeft = Unit {0}
AreOpen b day chosen (NotDecided learnt) = Unit {0}
AreOpen b day chosen (Codes states) =
    (place : ℕ) (value : Bool) → slice_get states.items place ≡ Some Open → IsShownAs b day chosen place value

abbrev pub IsGone : Contents → ℕ → List ℕ → Freedom → Type 0
IsGone b day chosen NoneLeft = (x : List Bool) → IsCarOf b day chosen x → ⊥
IsGone b day chosen (NotDecided learnt) = Unit {0}
IsGone b day chosen (Codes states) = Unit {0}

abbrev pub AreForced : Contents → ℕ → List ℕ → Freedom → Type 0
AreForced b day chosen NoneLeft = Unit {0}
AreForced b day chosen (NotDecided learnt) = Unit {0}
AreForced b day chosen (Codes states) =
    (x : List Bool) → IsCarOf b day chosen x → (place : ℕ)
    → (slice_get states.items place ≡ Some Forced → has x place ≡ true) × (slice_get states.items place ≡ Some Excluded → has x place ≡ false)
