use Rattle.std.proofs.Common.{◌≡◌, ◌++◌, map, length}
use Rattle.journal_keeper.specs.Tables.{draft_of}
use Rattle.journal_keeper.proofs.tables.drafts_of.Given as goal

-- the rows so far, and those that are left
abbrev pub invariant-loop-name : goal.invariant-loop-name
invariant-loop-name l = l.rows.items ++ map draft_of l.table.entries ≡ map draft_of l.initial.table.entries

abbrev pub decreases-loop-name : goal.decreases-loop-name
decreases-loop-name l = length l.table.entries
