-- The kernel only grew.
use Rattle.chains.specs.Growth.{Grows}
use Rattle.preparing.proofs.refute.go_back.Given as goal

abbrev pub invariant-loop : goal.invariant-loop
invariant-loop l = Grows l.initial.kernel l.kernel
