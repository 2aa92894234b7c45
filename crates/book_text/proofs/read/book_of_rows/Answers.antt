use Rattle.std.proofs.Common.{sym}
use Rattle.book_text.proofs.BookLaw.{heading_of-ordered}
use Rattle.book_text.proofs.read.book_of_rows.Goals as goal

pub book_behind-requires-clause-term : goal.book_behind-requires-clause-term
book_behind-requires-clause-term c = heading_of-ordered c.read.new.row c.in-Ok.heading (sym c.in-Ok.ensures)
