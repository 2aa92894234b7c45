use Rattle.std.proofs.Common.{◌≡◌, ℕ, ◌<◌, ◌≤◌, get_or}
use Rattle.order_desk.specs.Checked.{IsChecked}
use Rattle.order_desk.specs.declared.checking.BookPlace.{BookPlace}
use Rattle.order_desk.proofs.checking.check_all.Given as goal

-- the places so far are checked, the others are as they were
abbrev pub invariant-loop-place : goal.invariant-loop-place
invariant-loop-place l =
    ((k : ℕ) (d : BookPlace) → l.place-index ≤ k → get_or l.places k d ≡ get_or l.initial.places k d)
    × ((k : ℕ) (d : BookPlace) → k < l.place-index → IsChecked (get_or l.initial.places k d).row (get_or l.places k d))
