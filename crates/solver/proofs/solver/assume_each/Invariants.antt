-- The first of the clauses are attached.
use Rattle.std.proofs.Common.{◌≡◌}
use Rattle.solver.specs.Search.{IsKept}
use Rattle.solver.proofs.solver.assume_each.Given as goal

abbrev pub invariant-loop-lit : goal.invariant-loop-lit
invariant-loop-lit l = IsKept l.kernel.clauses l.engine l.resolution.marks.items × (l.engine.vars ≡ l.initial.engine.vars)
