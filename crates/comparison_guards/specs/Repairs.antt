-- What is told to change in an order.
--     ChangeIsAccepted b day kept change    the kept codes with those that are added are accepted
use Rattle.std.specs.Prelude.{◌≡◌, ℕ, true, List, ◌++◌}
use Rattle.pb_base.specs.Places.{names_at}
use Rattle.book_model.specs.Contents.{Contents}
use Rattle.order_added.specs.Accepted.{is_accepted}
use Rattle.order_repair.specs.declared.answer.Change.{Change}
use Rattle.order_repair.specs.declared.answer.Change.TheVariants.{Add, Unfit}

abbrev pub ChangeIsAccepted : Contents → ℕ → List ℕ → Change → Type 0
ChangeIsAccepted b day kept (Add added) = is_accepted b day (names_at b.codes kept ++ added.items) ≡ true
ChangeIsAccepted b day kept (Unfit x unfit) = Unit {0}
