use Rattle.std.proofs.Common.{◌≡◌, ◌<◌, ℕ, [], length, slice_index_or}
use Rattle.blame.specs.Absent.{IsClauseUsed}
use Rattle.blame.proofs.unused.used_codes.Given as goal

abbrev pub invariant-loop-at : goal.invariant-loop-at
invariant-loop-at l =
    (length l.used.items ≡ l.codes) × ((k : ℕ) → k < l.at → IsClauseUsed l.used.items (slice_index_or l.pool.clauses k []))
