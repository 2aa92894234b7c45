-- The additions so far, and then what completes the set so far, are the whole completion.
use Rattle.std.proofs.Common.{not}
use Rattle.std.specs.Prelude.{count_by}
use Rattle.supplement.proofs.Steps.{IsOnTheWay}
use Rattle.supplement.proofs.plain.complete_by_trying.Given as goal

abbrev pub invariant-loop-firing : goal.invariant-loop-firing
invariant-loop-firing l = IsOnTheWay l.supplements l.day l.fn.set l.set l.added

abbrev pub decreases-loop-firing : goal.decreases-loop-firing
decreases-loop-firing l = count_by not l.set
