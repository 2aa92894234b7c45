-- Every book that a valid desk keeps is released.
use Rattle.std.proofs.Common.{◌≡◌, ◌+◌, ℕ, List, [], ◌∷◌, sym, subst}
use Rattle.std.specs.Prelude.{Option, Some, None, IfSome, IsOkAnd, All, Result}
use Rattle.std.specs.List.{AllByRecursion}
use Rattle.std.proofs.lemmas.List.Elements.{All-cons, All-nil}
use Rattle.book_model.specs.Contents.{Contents}
use Rattle.book_model.specs.Sound.{IsReleasable}
use Rattle.book_text.specs.declared.fault.BookFault.{BookFault}
use Rattle.release.specs.Release.{IsRelease}
use Rattle.keeper.specs.Rows.{Kept}
use Rattle.order_desk.specs.declared.draft.Draft.{Draft}
use Rattle.order_desk.specs.declared.kept_book.KeptBook.{KeptBook}
use Rattle.order_desk.specs.Fits.{IsReleaseOf}
use Rattle.order_desk.specs.Rows.{book_row, book_rows, rows_of}
use Rattle.order_desk.specs.Tables.{Tables}
use Rattle.order_desk.specs.Valid.{IsValid}
use Rattle.desk_run.specs.DeskRun.{DeskOutside, IsDeskRun}
use Rattle.desk_run.specs.Released.{HasReleasedBooks, IsReleasedRow}
use Rattle.desk_run.specs.declared.end.DeskEnd.{DeskEnd}
use Rattle.desk_run.specs.declared.end.DeskEnd.TheVariants.{NotStarted, Served}

row_released : (number : ℕ) (book : KeptBook) → IsRelease book.released → IsReleasedRow (book_row number book)
row_released number book is = subst (λ (r : Result Contents BookFault). IsOkAnd r IsReleasable) (sym is.reads) is.releasable

rows_released : (drafts : List (List ℕ × Draft)) (number : ℕ) (books : List KeptBook)
    → AllByRecursion (λ b. IsReleaseOf drafts b.draft b.revision b.released) books → All IsReleasedRow (book_rows number books)
rows_released drafts number [] all = All-nil IsReleasedRow
rows_released drafts number (b ∷ bs) all =
    All-cons IsReleasedRow (book_row number b) (book_rows (number + 1) bs) (row_released number b all.0.release) (rows_released drafts (number + 1) bs all.1)

pub told_released : (t : Tables) (rows : Option Kept) → IsValid t → IfSome rows (λ kept. kept ≡ rows_of t) → IfSome rows (λ kept. All IsReleasedRow kept.books)
told_released t None valid is = tt
told_released t (Some kept) valid is =
    subst (λ (k : Kept). All IsReleasedRow k.books) (sym is) (rows_released t.drafts 1 t.books valid.books)

pub run_released : (how : DeskEnd) (before after : DeskOutside) → IsDeskRun how before after → HasReleasedBooks how after.rows
run_released (NotStarted why) before after run = tt
run_released (Served end) before after run = told_released run.served.new.state.tables after.rows run.served.valid run.served.rows
