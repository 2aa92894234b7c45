-- The kernel only grew.
use Rattle.chains.specs.Growth.{Grows}
use Rattle.preparing.proofs.exclude.exclude_leaves.Given as goal

abbrev pub invariant-loop-n : goal.invariant-loop-n
invariant-loop-n l = Grows l.initial.kernel l.kernel
