use Rattle.std.proofs.Common.{◌≡◌, ◌++◌, map, length}
use Rattle.journal_keeper.specs.Tables.{number_of_entry}
use Rattle.journal_keeper.proofs.tables.withdrawn_of.Given as goal

-- the rows so far, and those that are left
abbrev pub invariant-loop-number : goal.invariant-loop-number
invariant-loop-number l = l.numbers.items ++ map number_of_entry l.table.entries ≡ map number_of_entry l.initial.table.entries

abbrev pub decreases-loop-number : goal.decreases-loop-number
decreases-loop-number l = length l.table.entries
