use Rattle.std.proofs.Common.{◌-◌}
use Rattle.propagate.specs.Visiting.{scene}
use Rattle.propagate.specs.Running.{Ran}
use Rattle.propagate.proofs.engine.run.Given as goal

abbrev pub invariant-loop-head : goal.invariant-loop-head
invariant-loop-head l = Ran (scene l.initial.assignment l.initial.watched) (scene l.assignment l.watched) l.initial.head l.head

abbrev pub decreases-loop-head : goal.decreases-loop-head
decreases-loop-head l = l.assignment.vars - l.head
