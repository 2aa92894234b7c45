use Rattle.std.proofs.Common.{length, map}
use Rattle.order_desk.specs.Rows.{draft_row}
use Rattle.order_desk.proofs.CheckedRows.{AreLeft}
use Rattle.order_desk.proofs.book_rows.books_of.Given as goal

abbrev pub invariant-loop-place : goal.invariant-loop-place
invariant-loop-place g l = AreLeft (map draft_row l.drafts.entries) l.fn.rows.items l.books.items l.rest.items

abbrev pub decreases-loop-place : goal.decreases-loop-place
decreases-loop-place g l = length l.rest.items
