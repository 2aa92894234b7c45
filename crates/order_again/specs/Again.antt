-- What an accepted order comes to by another book than its own.
--     IsAgain own to day names again    of an order of these codes for this day
--     IsAgainOf to s again              of an order that is kept with its book
--     AreAgain to stock told            of each of several, in their order
use Rattle.std.specs.Prelude.{◌≡◌, ℕ, ◌<◌, Bool, true, List, Result, Ok, Err, length, slice_index_or}
use Rattle.book_model.specs.Contents.{Contents}
use Rattle.parts_usage.specs.Outcome.{outcome_of}
use Rattle.parts_usage.specs.declared.fault.OrderFault.{OrderFault}
use Rattle.parts_usage.specs.declared.judgement.Outcome.{Outcome}
use Rattle.parts_usage.specs.declared.judgement.Outcome.TheVariants as outcome
use Rattle.release.specs.Accepting.{accepts}
use Rattle.release.specs.Orders.{supplemented}
use Rattle.chosen_parts.specs.Chosen.{HaveSameParts, HaveOtherParts}
use Rattle.order_again.specs.declared.outcome.Again.{Again}
use Rattle.order_again.specs.declared.outcome.Again.TheVariants.{Same, Other, Refused, Fault}
use Rattle.order_again.specs.declared.kept.Stock.{Stock}

-- accepted by both, with these completed sets
abbrev pub IsSameAgain : Contents → Contents → ℕ → List Bool → List Bool → Again → Type 0
IsSameAgain own to day x y Same = HaveSameParts own to day x y
IsSameAgain own to day x y Other = HaveOtherParts own to day x y
IsSameAgain own to day x y (Refused rule) = ⊥
IsSameAgain own to day x y (Fault fault) = ⊥

-- by what the other book answers, where its own accepts it with this completed set
abbrev pub IsAgainBy : Contents → Contents → ℕ → List Bool → Result Outcome OrderFault → Again → Type 0
IsAgainBy own to day x (Ok (outcome.Accepted y list)) again = IsSameAgain own to day x y again
IsAgainBy own to day x (Ok (outcome.Refused rule)) again = again ≡ Refused rule
IsAgainBy own to day x (Ok (outcome.Unfit position count)) again = ⊥
IsAgainBy own to day x (Err fault) again = again ≡ Fault fault

abbrev pub IsAgain : Contents → Contents → ℕ → List (List ℕ) → Again → Type 0
IsAgain own to day names again = IsAgainBy own to day (supplemented own day names) (outcome_of to day names) again

-- its own book accepts it
abbrev pub IsAccepted : Stock → Type 0
IsAccepted s = accepts s.book.value.book s.order.day s.order.codes ≡ true

abbrev pub IsAgainOf : Contents → Stock → Again → Type 0
IsAgainOf to s again = IsAgain s.book.value.book to s.order.day s.order.codes again

pub record AreAgain (to : Contents) (stock : List Stock) (told : List Again) : Type 0 where
  pub count : length told ≡ length stock
  pub each : (k : ℕ) (s : Stock) (again : Again) → k < length stock → IsAgainOf to (slice_index_or stock k s) (slice_index_or told k again)
