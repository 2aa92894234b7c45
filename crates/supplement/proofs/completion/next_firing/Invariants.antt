-- No rule that fires is missed.
use Rattle.std.proofs.Common.{length}
use Rattle.supplement.specs.Worklist.{AreCandidates, AreTryable, HoldsFiring}
use Rattle.supplement.proofs.completion.next_firing.Given as goal

abbrev pub invariant-loop-candidate : goal.invariant-loop-candidate
invariant-loop-candidate l = AreCandidates l.supplements l.worklist × HoldsFiring l.supplements l.day l.set l.worklist × AreTryable l.supplements l.marks l.worklist

abbrev pub decreases-loop-candidate : goal.decreases-loop-candidate
decreases-loop-candidate l = length l.worklist
