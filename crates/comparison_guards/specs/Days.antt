-- What is told of a run of days of an order.
--     IsRefusedThrough b names run    where the run is told as refused by a rule, the order is so on each of its days
use Rattle.std.specs.Prelude.{◌≡◌, ℕ, List, Ok, IsTrue}
use Rattle.book_model.specs.Activity.{is_within}
use Rattle.book_model.specs.Contents.{Contents}
use Rattle.parts_usage.specs.Outcome.{outcome_of}
use Rattle.parts_usage.specs.declared.judgement.Outcome.TheVariants.{Refused}
use Rattle.order_days.specs.declared.run.Run.{Run}

abbrev pub IsRefusedThrough : Contents → List (List ℕ) → Run → Type 0
IsRefusedThrough b names run =
    (rule : ℕ) → run.outcome ≡ Refused rule → (day : ℕ) → IsTrue (is_within run.first run.last day)
    → outcome_of b day names ≡ Ok (Refused rule)
