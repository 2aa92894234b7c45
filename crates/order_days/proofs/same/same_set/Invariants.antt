use Rattle.std.proofs.Common.{◌≡◌, drop}
use Rattle.order_days.specs.Same.{is_same_set}
use Rattle.order_days.proofs.same.same_set.Given as goal

-- what is left decides
abbrev pub invariant-loop-place : goal.invariant-loop-place
invariant-loop-place l = is_same_set (drop l.place l.x) (drop l.place l.y) ≡ is_same_set l.x l.y
