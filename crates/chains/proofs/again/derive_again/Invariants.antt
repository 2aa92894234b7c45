-- The kernel only grew.
use Rattle.chains.specs.Growth.{Grows}
use Rattle.chains.proofs.again.derive_again.Given as goal

abbrev pub invariant-loop-at : goal.invariant-loop-at
invariant-loop-at g l = Grows l.initial.kernel l.kernel
