use Rattle.order_added.proofs.PassLaws.{Cutting}
use Rattle.order_added.proofs.runs.take_runs_out.Given as goal

abbrev pub invariant-loop-size : goal.invariant-loop-size
invariant-loop-size l = Cutting l.judge l.initial.added.items l.added.items 0

abbrev pub decreases-loop-size : goal.decreases-loop-size
decreases-loop-size l = l.size
