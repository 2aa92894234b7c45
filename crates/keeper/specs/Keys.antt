-- The keys of the tables, as the orders of their rows: texts by their bytes, numbers by their size.
use Rattle.std.specs.Ordering.{nat_cmp, ordering_then}
use Rattle.std.specs.Cmp.Lexicographic.{slice_cmp}
use Rattle.std.specs.declared.cmp.Ordering.{Ordering}
use Rattle.keeper.specs.declared.rows.DraftRow.{DraftRow}
use Rattle.keeper.specs.declared.rows.BookRow.{BookRow}
use Rattle.keeper.specs.declared.rows.OrderRow.{OrderRow}

-- drafts by their names
abbrev pub by_name : DraftRow → DraftRow → Ordering
by_name a b = slice_cmp nat_cmp a.name b.name

-- books by their numbers
abbrev pub by_number : BookRow → BookRow → Ordering
by_number a b = nat_cmp a.number b.number

-- orders by their callers, and those of one caller by their numbers
abbrev pub by_caller : OrderRow → OrderRow → Ordering
by_caller a b = ordering_then (slice_cmp nat_cmp a.caller b.caller) (nat_cmp a.number b.number)
