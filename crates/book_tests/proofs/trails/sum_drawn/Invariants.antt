-- The engine has the clauses of the pool.
use Rattle.std.proofs.Common.{◌≡◌}
use Rattle.book_tests.proofs.trails.sum_drawn.Given as goal

abbrev pub invariant-loop-k : goal.invariant-loop-k
invariant-loop-k l = l.pool.clauses ≡ l.engine.clauses
