use Rattle.std.proofs.Common.{◌≡◌, ◌++◌, map, length}
use Rattle.journal_keeper.specs.Tables.{order_of}
use Rattle.journal_keeper.proofs.tables.orders_of.Given as goal

-- the rows so far, and those that are left
abbrev pub invariant-loop-caller : goal.invariant-loop-caller
invariant-loop-caller l = l.rows.items ++ map order_of l.table.entries ≡ map order_of l.initial.table.entries

abbrev pub decreases-loop-caller : goal.decreases-loop-caller
decreases-loop-caller l = length l.table.entries
