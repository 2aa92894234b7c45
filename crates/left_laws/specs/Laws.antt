-- What is told of codes, and of rules, as the accepted orders of a book have it.
--     NamesAll b names chosen              the names name each of the codes
--     IsAcceptedWith b day chosen names    the order is well-formed, names each of the codes, and is accepted
--     IsOrdered b day chosen x             the codes of the set, ordered as they stand, are such an order and come to just this set
--     OrdersFor b day chosen place         one such order comes to a car with the code, and another to one without
--     OrdersAreSo b day chosen f           of each code such orders come to what is told of it
--     OrdersMeet b day rule told           such orders come to cars that meet the rule, or don't, as is told
--     IsNamedBook b                        a book, no two of whose codes have one name
use Rattle.std.specs.Prelude.{◌≡◌, ℕ, Bool, true, false, List, [], Some, slice_get}
use Rattle.std.specs.List.{list_all, IsDistinct}
use Rattle.blame.specs.declared.blamed.Told.{Told}
use Rattle.blame.specs.declared.blamed.Told.TheVariants as told
use Rattle.pb_base.specs.NamedSet.{named}
use Rattle.pb_base.specs.Names.{same_name}
use Rattle.pb_base.specs.Rule.{Rule, holds}
use Rattle.pb_base.specs.Sets.{has}
use Rattle.pb_base.specs.Picked.{picked}
use Rattle.book_model.specs.Book.{IsBook}
use Rattle.book_model.specs.Contents.{Contents}
use Rattle.book_model.specs.Sound.{IsReleasable}
use Rattle.left_cars.specs.declared.states.CodeState.{CodeState}
use Rattle.left_cars.specs.declared.states.CodeState.TheVariants as state
use Rattle.left_cars.specs.declared.states.Freedom.{Freedom}
use Rattle.left_cars.specs.declared.states.Freedom.TheVariants.{NoneLeft, NotDecided, Codes}
use Rattle.release.specs.Accepting.{accepts}
use Rattle.release.specs.Orders.{IsWellFormed, supplemented}

abbrev pub NamesAll : Contents → List (List ℕ) → List ℕ → Type 0
NamesAll b names chosen = list_all (has (named b.codes names)) chosen ≡ true

pub record IsAcceptedWith (b : Contents) (day : ℕ) (chosen : List ℕ) (names : List (List ℕ)) : Type 0 where
  pub formed : IsWellFormed b day names
  pub names_all : NamesAll b names chosen
  pub accepted : accepts b day names ≡ true

pub record IsOrdered (b : Contents) (day : ℕ) (chosen : List ℕ) (x : List Bool) : Type 0 where
  pub accepted : IsAcceptedWith b day chosen (picked b.codes x)
  pub comes : supplemented b day (picked b.codes x) ≡ x

-- an accepted order after which the code is there, or isn't
pub record IsOrderFor (b : Contents) (day : ℕ) (chosen : List ℕ) (place : ℕ) (value : Bool) : Type 0 where
  pub names : List (List ℕ)
  pub accepted : IsAcceptedWith b day chosen names
  pub shows : has (supplemented b day names) place ≡ value

pub record OrdersFor (b : Contents) (day : ℕ) (chosen : List ℕ) (place : ℕ) : Type 0 where
  pub with_it : IsOrderFor b day chosen place true
  pub without : IsOrderFor b day chosen place false

-- ---- what is told of codes

-- after each accepted order the code is there, or after none
abbrev pub EachShows : Contents → ℕ → List ℕ → ℕ → Bool → Type 0
EachShows b day chosen place value =
    (names : List (List ℕ)) → IsAcceptedWith b day chosen names → has (supplemented b day names) place ≡ value

-- that a car can be ordered as it stands is so at a book that can be released
abbrev pub IsSoOfOrders : Contents → ℕ → List ℕ → ℕ → CodeState → Type 0
IsSoOfOrders b day chosen place state.Ordered = EachShows b day chosen place true
IsSoOfOrders b day chosen place state.Forced = EachShows b day chosen place true
IsSoOfOrders b day chosen place state.Excluded = EachShows b day chosen place false
IsSoOfOrders b day chosen place state.Open = IsReleasable b → OrdersFor b day chosen place
IsSoOfOrders b day chosen place (state.Undecided learnt) = IsReleasable b → (value : Bool) × IsOrderFor b day chosen place value

-- where no car is left, no order is accepted
abbrev pub OrdersAreSo : Contents → ℕ → List ℕ → Freedom → Type 0
OrdersAreSo b day chosen NoneLeft = (names : List (List ℕ)) → IsAcceptedWith b day chosen names → ⊥
OrdersAreSo b day chosen (NotDecided learnt) = Unit {0}
OrdersAreSo b day chosen (Codes states) =
    (place : ℕ) (s : CodeState) → slice_get states.items place ≡ Some s → IsSoOfOrders b day chosen place s

-- ---- what is told of a rule

-- the car that is shown can be ordered; where there is none, no accepted order comes to one
abbrev pub OrdersMeet : Contents → ℕ → Rule → Told → Type 0
OrdersMeet b day rule (told.Car x) = IsReleasable b → IsOrdered b day [] x
OrdersMeet b day rule (told.NoCar m) =
    (names : List (List ℕ)) → IsAcceptedWith b day [] names → holds rule (supplemented b day names) ≡ false
OrdersMeet b day rule (told.Undecided learnt) = Unit {0}

pub record IsNamedBook (b : Contents) : Type 0 where
  pub book : IsBook b
  pub distinct : IsDistinct same_name b.codes
