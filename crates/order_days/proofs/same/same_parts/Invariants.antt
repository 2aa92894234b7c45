use Rattle.std.proofs.Common.{◌≡◌, drop, map}
use Rattle.chosen_parts.specs.Chosen.{chosen}
use Rattle.order_days.specs.Days.{parts_on}
use Rattle.order_days.specs.Same.{are_same_parts}
use Rattle.order_days.proofs.same.same_parts.Given as goal

-- the positions that are left decide
abbrev pub invariant-loop-place : goal.invariant-loop-place
invariant-loop-place l =
    are_same_parts (map (λ p. chosen l.book l.one p.id l.x) (drop l.place l.book.positions)) (map (λ p. chosen l.book l.other p.id l.y) (drop l.place l.book.positions))
    ≡ are_same_parts (parts_on l.book l.one l.x) (parts_on l.book l.other l.y)
