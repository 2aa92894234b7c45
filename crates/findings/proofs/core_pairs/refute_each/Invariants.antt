-- The kernel only grew.
use Rattle.solver.specs.Solver.{Onwards}
use Rattle.findings.proofs.core_pairs.refute_each.Given as goal

abbrev pub invariant-loop-pair : goal.invariant-loop-pair
invariant-loop-pair l = Onwards l.initial.solver l.solver
