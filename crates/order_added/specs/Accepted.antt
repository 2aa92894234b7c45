-- Whether an order is accepted.
--     is_accepted b day names    an order of these codes for this day is accepted
--     is_constructible b day names    what it comes to breaks no rule at least
use Rattle.std.specs.Prelude.{ℕ, Bool, true, false, List, Result, Ok, Err}
use Rattle.book_model.specs.Contents.{Contents}
use Rattle.parts_usage.specs.Outcome.{outcome_of}
use Rattle.parts_usage.specs.declared.fault.OrderFault.{OrderFault}
use Rattle.parts_usage.specs.declared.judgement.Outcome.{Outcome}
use Rattle.parts_usage.specs.declared.judgement.Outcome.TheVariants.{Accepted, Refused, Unfit}

-- what the order comes to is an accepted one
abbrev pub is_acceptance : Result Outcome OrderFault → Bool
is_acceptance (Ok (Accepted set list)) = true
is_acceptance (Ok (Refused rule)) = false
is_acceptance (Ok (Unfit position count)) = false
is_acceptance (Err fault) = false

unfoldable pub is_accepted : Contents → ℕ → List (List ℕ) → Bool
is_accepted b day names = is_acceptance (outcome_of b day names)

-- it breaks no rule
abbrev pub is_unbroken : Result Outcome OrderFault → Bool
is_unbroken (Ok (Accepted set list)) = true
is_unbroken (Ok (Refused rule)) = false
is_unbroken (Ok (Unfit position count)) = true
is_unbroken (Err fault) = false

unfoldable pub is_constructible : Contents → ℕ → List (List ℕ) → Bool
is_constructible b day names = is_unbroken (outcome_of b day names)
