use Rattle.std.proofs.Common.{length}
use Rattle.journal_keeper.proofs.Walks.{IsReadTo}
use Rattle.journal_keeper.proofs.reading.last_gate.Given as goal

abbrev pub invariant-loop-line : goal.invariant-loop-line
invariant-loop-line l = IsReadTo l.body l.rest

abbrev pub decreases-loop-line : goal.decreases-loop-line
decreases-loop-line l = length l.rest
