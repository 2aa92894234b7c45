use Rattle.chosen_parts.specs.Chosen.{AreSameAt}
use Rattle.chosen_parts.proofs.same.same_at_each.Given as goal

abbrev pub invariant-loop-place : goal.invariant-loop-place
invariant-loop-place l = AreSameAt l.first l.second l.day l.x l.y l.place
