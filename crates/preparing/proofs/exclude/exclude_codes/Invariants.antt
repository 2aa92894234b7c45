-- The kernel only grew.
use Rattle.chains.specs.Growth.{Grows}
use Rattle.preparing.proofs.exclude.exclude_codes.Given as goal

abbrev pub invariant-loop-exclusion : goal.invariant-loop-exclusion
invariant-loop-exclusion l = Grows l.initial.kernel l.kernel
