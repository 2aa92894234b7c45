-- What the cars that were found show of each code.
--     IsSeen b day chosen seen   each value that is noted of a code is one that some car shows
--     AllSeen n seen             of each code one value is noted
--     only_value w o             the value that is noted, where the other isn't
use Rattle.std.specs.Prelude.{◌≡◌, ◌⊎◌, ℕ, ◌<◌, Bool, true, false, List, Option, None, Some, length}
use Rattle.pb_base.specs.Sets.{has}
use Rattle.book_model.specs.Contents.{Contents}
use Rattle.left_cars.specs.Left.{IsShown}
use Rattle.left_cars.specs.declared.seen.Seen.{Seen}

pub record IsSeen (b : Contents) (day : ℕ) (chosen : List ℕ) (seen : Seen) : Type 0 where
  pub with_counted : length seen.with_it ≡ length b.codes
  pub without_counted : length seen.without ≡ length b.codes
  pub with_shown : (place : ℕ) → has seen.with_it place ≡ true → IsShown b day chosen place true
  pub without_shown : (place : ℕ) → has seen.without place ≡ true → IsShown b day chosen place false

abbrev pub SeenAt : Seen → ℕ → Type 0
SeenAt seen place = (has seen.with_it place ≡ true) ⊎ (has seen.without place ≡ true)

abbrev pub AllSeen : ℕ → Seen → Type 0
AllSeen n seen = (place : ℕ) → place < n → SeenAt seen place

abbrev pub only_value : Bool → Bool → Option Bool
only_value false without = Some false
only_value true false = Some true
only_value true true = None
