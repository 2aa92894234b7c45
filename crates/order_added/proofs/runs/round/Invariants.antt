use Rattle.order_added.proofs.PassLaws.{Cutting}
use Rattle.order_added.proofs.runs.round.Given as goal

abbrev pub invariant-loop-end : goal.invariant-loop-end
invariant-loop-end l = Cutting l.judge l.initial.added.items l.added.items l.end

abbrev pub decreases-loop-end : goal.decreases-loop-end
decreases-loop-end l = l.end
