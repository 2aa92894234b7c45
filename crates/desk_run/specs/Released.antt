-- Which books are kept at the end of a run.
use Rattle.std.specs.Prelude.{Option, IfSome, IsOkAnd, All}
use Rattle.book_model.specs.Sound.{IsReleasable}
use Rattle.book_text.specs.BookText.{book_of}
use Rattle.keeper.specs.Rows.{Kept}
use Rattle.keeper.specs.declared.rows.BookRow.{BookRow}
use Rattle.desk_run.specs.declared.end.DeskEnd.{DeskEnd}
use Rattle.desk_run.specs.declared.end.DeskEnd.TheVariants.{NotStarted, Served}

-- the text is a book that can be released: on every day of its term some set of codes is good, and every good set selects
-- exactly one variant at each mandatory position and nowhere two
abbrev pub IsReleasedRow : BookRow → Type 0
IsReleasedRow row = IsOkAnd (book_of row.text) IsReleasable

-- where a link was served, every book that is kept then is such a book
abbrev pub HasReleasedBooks : DeskEnd → Option Kept → Type 0
HasReleasedBooks (NotStarted why) rows = Unit {0}
HasReleasedBooks (Served end) rows = IfSome rows (λ kept. All IsReleasedRow kept.books)
