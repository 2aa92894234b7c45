-- What an order comes to, and what can be chosen beside its codes.
--     completed_of b day names        the completed set of the codes that they name
--     IsAnswer b day names budget a   the order has no fault, and the answer is right
use Rattle.std.specs.Prelude.{◌≡◌, ℕ, Bool, List, None}
use Rattle.pb_base.specs.Places.{places_of}
use Rattle.pb_base.specs.NamedSet.{named}
use Rattle.book_model.specs.Contents.{Contents}
use Rattle.supplement.specs.Completion.{completion_of}
use Rattle.parts_usage.specs.Fault.{order_fault}
use Rattle.parts_usage.specs.Outcome.{outcome_of_set}
use Rattle.left_cars.specs.Freedom.{IsFree}
use Rattle.left_laws.specs.Laws.{OrdersAreSo}
use Rattle.free_answers.specs.declared.answer.FreeAnswer.{FreeAnswer}

abbrev pub completed_of : Contents → ℕ → List (List ℕ) → List Bool
completed_of b day names = (completion_of b day (named b.codes names)).set

pub record IsAnswer (b : Contents) (day : ℕ) (names : List (List ℕ)) (budget : ℕ) (a : FreeAnswer) : Type 0 where
  pub faultless : order_fault b day names ≡ None
  pub outcome : a.outcome ≡ outcome_of_set b day (completed_of b day names)
  pub completed : a.completed ≡ completed_of b day names
  pub free : IsFree b day (places_of b.codes names) budget a.freedom
  -- and so it is with the accepted orders that name these codes
  pub orders : OrdersAreSo b day (places_of b.codes names) a.freedom
