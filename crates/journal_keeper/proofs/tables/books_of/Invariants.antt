use Rattle.std.proofs.Common.{◌≡◌, ◌++◌, map, length}
use Rattle.journal_keeper.specs.Tables.{book_of}
use Rattle.journal_keeper.proofs.tables.books_of.Given as goal

-- the rows so far, and those that are left
abbrev pub invariant-loop-number : goal.invariant-loop-number
invariant-loop-number l = l.rows.items ++ map book_of l.table.entries ≡ map book_of l.initial.table.entries

abbrev pub decreases-loop-number : goal.decreases-loop-number
decreases-loop-number l = length l.table.entries
