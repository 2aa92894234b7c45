-- The candidates so far are those of the rules so far whose formulas are true.
use Rattle.supplement.specs.Worklist.{AreHolding}
use Rattle.supplement.proofs.WorklistLemmas.{HasHoldingUpTo}
use Rattle.supplement.proofs.standing.rules_that_hold.Given as goal

abbrev pub invariant-loop-place : goal.invariant-loop-place
invariant-loop-place l = AreHolding l.supplements l.set l.found.items × HasHoldingUpTo l.place l.supplements l.set l.found.items
