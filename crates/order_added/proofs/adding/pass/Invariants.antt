use Rattle.order_added.proofs.PassLaws.{Passing}
use Rattle.order_added.proofs.adding.pass.Given as goal

abbrev pub invariant-loop-first : goal.invariant-loop-first
invariant-loop-first l = Passing l.judge l.initial.added.items l.at l.end l.first l.added.items

abbrev pub decreases-loop-first : goal.decreases-loop-first
decreases-loop-first l = l.at
