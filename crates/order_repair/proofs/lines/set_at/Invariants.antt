use Rattle.std.proofs.Common.{◌≡◌, drop}
use Rattle.std.specs.List.{fold}
use Rattle.order_repair.specs.RepairText.{set_at, with_code}
use Rattle.order_repair.proofs.lines.set_at.Given as goal

abbrev pub invariant-loop-place : goal.invariant-loop-place
invariant-loop-place l = fold with_code l.set (drop l.place-index l.places) ≡ set_at l.n l.places
