-- All literals so far are of the first 36 variables.
use Rattle.clause_pool.specs.Clause.{IsBelow, AreBelow}
use Rattle.book_tests.proofs.questions.put_clauses.Given as goal

abbrev pub invariant-loop-byte : goal.invariant-loop-byte
invariant-loop-byte l = AreBelow 72 l.pool.clauses × IsBelow 72 l.clause.items
