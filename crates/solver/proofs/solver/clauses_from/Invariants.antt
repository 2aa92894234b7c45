use Rattle.std.proofs.Common.{◌≡◌, take, drop}
use Rattle.solver.proofs.solver.clauses_from.Given as goal

abbrev pub invariant-loop-at : goal.invariant-loop-at
invariant-loop-at l = l.learnt.clauses ≡ drop l.first (take l.at l.pool.clauses)
