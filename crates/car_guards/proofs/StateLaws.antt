-- What the contract of the codes that are left says to a buyer.
use Rattle.std.proofs.Common.{◌≡◌, ℕ, Bool, true, false, List, sym, ◌∙◌}
use Rattle.std.specs.List.{list_all}
use Rattle.std.proofs.lemmas.Bool.{and_from, and_parts, true≢false}
use Rattle.pb_base.specs.Sets.{has}
use Rattle.book_model.specs.Contents.{Contents}
use Rattle.book_model.specs.Good.{is_good}
use Rattle.left_cars.specs.Freedom.{IsFree, IsState}
use Rattle.left_cars.specs.Left.{is_left, IsShown}
use Rattle.left_cars.specs.declared.states.CodeState.TheVariants.{Open, Forced, Excluded}
use Rattle.left_cars.specs.declared.states.Freedom.{Freedom}
use Rattle.left_cars.specs.declared.states.Freedom.TheVariants.{NoneLeft, NotDecided, Codes}
use Rattle.car_guards.specs.States.{AreForced, AreOpen, HasChosen, IsCarOf, IsGone, IsShownAs}

module _ (b : Contents) (day : ℕ) (chosen : List ℕ) (budget : ℕ) where
  car_of : (x : List Bool) → is_left b day chosen x ≡ true → IsCarOf b day chosen x
  car_of x h = let parts = and_parts (is_good b day x) (list_all (has x) chosen) h in record { good = parts.0; has_chosen = parts.1 }

  left_by : (x : List Bool) → IsCarOf b day chosen x → is_left b day chosen x ≡ true
  left_by x h = and_from (is_good b day x) (list_all (has x) chosen) h.good h.has_chosen

  pub has_chosen : (f : Freedom) → IsFree b day chosen budget f → HasChosen b day chosen f
  has_chosen NoneLeft h = tt
  has_chosen (NotDecided learnt) h = tt
  has_chosen (Codes states) h = (h.car, car_of h.car h.left)

  shown_as : (place : ℕ) (value : Bool) → IsShown b day chosen place value → IsShownAs b day chosen place value
  shown_as place value h = record { set = h.car; car = car_of h.car h.left; shows = h.shows }

  pub are_open : (f : Freedom) → IsFree b day chosen budget f → AreOpen b day chosen f
  are_open NoneLeft h = tt
  are_open (NotDecided learnt) h = tt
  are_open (Codes states) h = λ place value at. of_value place value (h.each place Open at) where
    of_value : (place : ℕ) (value : Bool) → IsState b day chosen budget place Open → IsShownAs b day chosen place value
    of_value place true k = shown_as place true k.1.with_it
    of_value place false k = shown_as place false k.1.without

  pub is_gone : (f : Freedom) → IsFree b day chosen budget f → IsGone b day chosen f
  is_gone NoneLeft h = λ x car. true≢false (sym (left_by x car) ∙ h x)
  is_gone (NotDecided learnt) h = tt
  is_gone (Codes states) h = tt

  pub are_forced : (f : Freedom) → IsFree b day chosen budget f → AreForced b day chosen f
  are_forced NoneLeft h = tt
  are_forced (NotDecided learnt) h = tt
  are_forced (Codes states) h = λ x car place.
      ((λ at. (h.each place Forced at).1 x (left_by x car)), (λ at. (h.each place Excluded at).1 x (left_by x car)))
