use Rattle.std.proofs.Common.{◌≡◌, ◌-◌, length, take}
use Rattle.propagate.specs.Trail.{level}
use Rattle.solver.proofs.solver.attach_rest.Given as goal

abbrev pub invariant-loop-engine : goal.invariant-loop-engine
invariant-loop-engine l = (level l.engine ≡ 0) × (l.engine.clauses ≡ take (length l.engine.clauses) l.pool.clauses) × (l.engine.vars ≡ l.initial.engine.vars)

abbrev pub decreases-loop-engine : goal.decreases-loop-engine
decreases-loop-engine l = length l.pool.clauses - length l.engine.clauses
