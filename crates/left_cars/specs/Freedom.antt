-- What can still be chosen beside some codes.
--     IsState b day chosen budget place s    what is so of the code at a place
--     HasStates b day chosen budget ss       some car is left, and each code of the book has its state
--     IsFree b day chosen budget f           no car is left, or that wasn't decided, or each code has its state
use Rattle.std.specs.Prelude.{◌≡◌, ℕ, Bool, true, false, not, List, [], ◌∷◌, Some, length, slice_get}
use Rattle.clause_pool.specs.Literal.{literal}
use Rattle.book_model.specs.Contents.{Contents}
use Rattle.left_cars.specs.Left.{is_left, is_chosen, IsShown, IsOpen, IsForced, IsExcluded, IsGivenUp}
use Rattle.left_cars.specs.declared.states.CodeState.{CodeState}
use Rattle.left_cars.specs.declared.states.CodeState.TheVariants as state
use Rattle.left_cars.specs.declared.states.Freedom.{Freedom}
use Rattle.left_cars.specs.declared.states.Freedom.TheVariants.{NoneLeft, NotDecided, Codes}

-- one value of the code is shown, and the search for the other one was left
pub record IsUndecided (b : Contents) (day : ℕ) (chosen : List ℕ) (budget place : ℕ) (learnt : List (List ℕ)) : Type 0 where
  pub value : Bool
  pub shown : IsShown b day chosen place value
  pub given_up : IsGivenUp b day chosen (literal place (not value) ∷ []) budget learnt

abbrev pub IsState : Contents → ℕ → List ℕ → ℕ → ℕ → CodeState → Type 0
IsState b day chosen budget place state.Ordered = is_chosen chosen place ≡ true
IsState b day chosen budget place state.Forced = (is_chosen chosen place ≡ false) × IsForced b day chosen place
IsState b day chosen budget place state.Excluded = (is_chosen chosen place ≡ false) × IsExcluded b day chosen place
IsState b day chosen budget place state.Open = (is_chosen chosen place ≡ false) × IsOpen b day chosen place
IsState b day chosen budget place (state.Undecided learnt) =
    (is_chosen chosen place ≡ false) × IsUndecided b day chosen budget place learnt.clauses

abbrev pub AreStates : Contents → ℕ → List ℕ → ℕ → List CodeState → Type 0
AreStates b day chosen budget states = (place : ℕ) (s : CodeState) → slice_get states place ≡ Some s → IsState b day chosen budget place s

pub record HasStates (b : Contents) (day : ℕ) (chosen : List ℕ) (budget : ℕ) (states : List CodeState) : Type 0 where
  pub car : List Bool
  pub left : is_left b day chosen car ≡ true
  pub counted : length states ≡ length b.codes
  pub each : AreStates b day chosen budget states

abbrev pub IsFree : Contents → ℕ → List ℕ → ℕ → Freedom → Type 0
IsFree b day chosen budget NoneLeft = (x : List Bool) → is_left b day chosen x ≡ false
IsFree b day chosen budget (NotDecided learnt) = IsGivenUp b day chosen [] budget learnt.clauses
IsFree b day chosen budget (Codes states) = HasStates b day chosen budget states.items
