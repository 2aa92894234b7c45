-- The additions so far, and then what completes the set so far, are the whole completion; each rule that fires is worklist.
use Rattle.std.proofs.Common.{not}
use Rattle.std.specs.Prelude.{count_by}
use Rattle.supplement.specs.Worklist.{AreCandidates, AreMarked, AreTryable, HoldsFiring}
use Rattle.supplement.proofs.Steps.{IsOnTheWay}
use Rattle.supplement.proofs.completion.complete_by_worklist.Given as goal

abbrev pub invariant-loop-firing : goal.invariant-loop-firing
invariant-loop-firing l = record {
  way : IsOnTheWay l.supplements l.day l.fn.set l.set l.added;
  candidates : AreCandidates l.supplements l.worklist;
  firing : HoldsFiring l.supplements l.day l.set l.worklist;
  marked : AreMarked l.supplements l.set l.marks;
  tryable : AreTryable l.supplements l.marks l.worklist;
}

abbrev pub decreases-loop-firing : goal.decreases-loop-firing
decreases-loop-firing l = count_by not l.set
