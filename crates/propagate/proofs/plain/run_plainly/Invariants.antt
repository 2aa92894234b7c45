use Rattle.propagate.proofs.PlainLaws.{Passing, to_pass}
use Rattle.propagate.proofs.plain.run_plainly.Given as goal

abbrev pub invariant-loop-at : goal.invariant-loop-at
invariant-loop-at l = Passing l.pool.clauses l.initial.assignment l.assignment l.at

abbrev pub decreases-loop-at : goal.decreases-loop-at
decreases-loop-at l = to_pass l.pool.clauses l.assignment l.at
