-- Whether a book accepts an order: without a fault, and with a parts list.
--     is_accepted answer        what the order comes to is one that is accepted
--     accepts book day codes    the book accepts an order of these codes for this day
use Rattle.std.specs.Prelude.{ℕ, Bool, true, false, List, Result, Ok, Err}
use Rattle.book_model.specs.Contents.{Contents}
use Rattle.parts_usage.specs.Outcome.{outcome_of}
use Rattle.parts_usage.specs.declared.fault.OrderFault.{OrderFault}
use Rattle.parts_usage.specs.declared.judgement.Outcome.{Outcome}
use Rattle.parts_usage.specs.declared.judgement.Outcome.TheVariants.{Accepted, Refused, Unfit}

abbrev pub is_accepted : Result Outcome OrderFault → Bool
is_accepted (Ok (Accepted set list)) = true
is_accepted (Ok (Refused rule)) = false
is_accepted (Ok (Unfit position count)) = false
is_accepted (Err fault) = false

unfoldable pub accepts : Contents → ℕ → List (List ℕ) → Bool
accepts book day codes = is_accepted (outcome_of book day codes)
