use Rattle.chosen_parts.specs.Chosen.{HaveNoneAdded}
use Rattle.chosen_parts.proofs.same.none_added.Given as goal

abbrev pub invariant-loop-place : goal.invariant-loop-place
invariant-loop-place l = HaveNoneAdded l.first l.second l.day l.y l.place
