use Rattle.std.proofs.Common.{◌≡◌, ℕ, ◌≤◌, List}
use Rattle.propagate.specs.Trail.{level}
use Rattle.solver.specs.Search.{IsAssumed, IsSettled, left_of}
use Rattle.solver.proofs.decide.descend.Given as goal

abbrev pub invariant-loop-found : goal.invariant-loop-found
invariant-loop-found l = (l.engine.clauses ≡ l.initial.engine.clauses) × (l.engine.vars ≡ l.initial.engine.vars) × IsSettled l.engine
    × ((a : List ℕ) (d : ℕ) → d ≤ level l.initial.engine → IsAssumed a d l.initial.engine → IsAssumed a d l.engine) × (level l.initial.engine ≤ level l.engine)

abbrev pub decreases-loop-found : goal.decreases-loop-found
decreases-loop-found l = left_of l.engine
