use Rattle.clause_pool.proofs.RunLaws.{IsRunning}
use Rattle.clause_pool.proofs.run.run_chain.Given as goal

abbrev pub invariant-loop-k : goal.invariant-loop-k
invariant-loop-k l = IsRunning l.pool.clauses l.start l.pairs l.k l.running
