use Rattle.std.proofs.Common.{length}
use Rattle.journal_keeper.specs.Tables.{kept_by}
use Rattle.journal_keeper.proofs.Walks.{IsGathered}
use Rattle.journal_keeper.proofs.loading.gathered.Given as goal

abbrev pub invariant-loop-line : goal.invariant-loop-line
invariant-loop-line l = IsGathered l.body l.rest (kept_by l.tables)

abbrev pub decreases-loop-line : goal.decreases-loop-line
decreases-loop-line l = length l.rest
