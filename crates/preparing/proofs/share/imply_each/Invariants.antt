-- The kernel only grew.
use Rattle.chains.specs.Growth.{Grows}
use Rattle.preparing.proofs.share.imply_each.Given as goal

abbrev pub invariant-loop-other : goal.invariant-loop-other
invariant-loop-other l = Grows l.initial.kernel l.kernel
