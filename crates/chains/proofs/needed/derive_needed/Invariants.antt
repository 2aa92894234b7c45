-- The kernel only grew.
use Rattle.chains.specs.Growth.{Grows}
use Rattle.chains.proofs.needed.derive_needed.Given as goal

abbrev pub invariant-loop-at : goal.invariant-loop-at
invariant-loop-at l = Grows l.initial.kernel l.kernel
