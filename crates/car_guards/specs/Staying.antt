-- Which codes of an order are told to stay, as a buyer takes it.
--     LeavesOutNone b day chosen answer   what a good set has beside all codes that stay is one of these
use Rattle.std.specs.Prelude.{◌≡◌, ℕ, ◌==◌, Bool, true, List}
use Rattle.std.specs.List.{list_all, list_any, AllByRecursion}
use Rattle.pb_base.specs.Sets.{has}
use Rattle.book_model.specs.Contents.{Contents}
use Rattle.book_model.specs.Good.{is_good}
use Rattle.order_stays.specs.declared.stay.Staying.{Staying}
use Rattle.order_stays.specs.declared.stay.Staying.TheVariants.{Codes, NoCar, Undecided}

abbrev pub StaysWhere : Contents → ℕ → List ℕ → ℕ → Type 0
StaysWhere b day kept code =
    (x : List Bool) → is_good b day x ≡ true → list_all (has x) kept ≡ true → has x code ≡ true → list_any (λ k. k == code) kept ≡ true

abbrev pub LeavesOutNone : Contents → ℕ → List ℕ → Staying → Type 0
LeavesOutNone b day chosen (Codes stay) = AllByRecursion (StaysWhere b day stay.kept.items) chosen
LeavesOutNone b day chosen NoCar = Unit {0}
LeavesOutNone b day chosen (Undecided learnt) = Unit {0}
