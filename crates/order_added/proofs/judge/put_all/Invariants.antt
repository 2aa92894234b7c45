use Rattle.std.proofs.Common.{◌≡◌, drop, length}
use Rattle.order_added.specs.Judging.{with_codes}
use Rattle.order_added.proofs.judge.put_all.Given as goal

-- what is left to be put to the set makes it the same
abbrev pub invariant-loop-place : goal.invariant-loop-place
invariant-loop-place l = (with_codes l.set (drop l.place-index l.places) ≡ with_codes l.initial.set l.places) × (length l.set ≡ length l.initial.set)
