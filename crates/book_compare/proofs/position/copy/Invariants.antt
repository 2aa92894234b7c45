use Rattle.std.proofs.Common.{◌≡◌, take}
use Rattle.book_compare.proofs.position.copy.Given as goal

abbrev pub invariant-loop-at : goal.invariant-loop-at
invariant-loop-at l = l.further.clauses ≡ take l.at l.pool.clauses
