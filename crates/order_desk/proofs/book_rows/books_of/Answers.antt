use Rattle.std.proofs.Common.{◌≡◌, ◌+◌, List, [], Some, false, map, rules, length, sym, ap, subst, ◌∙◌, arith}
use Rattle.keeper.specs.declared.rows.BookRow.{BookRow}
use Rattle.keeper.specs.declared.rows.DraftRow.{DraftRow}
use Rattle.order_desk.specs.declared.checking.BookPlace.{BookPlace}
use Rattle.order_desk.specs.declared.kept_book.KeptBook.{KeptBook}
use Rattle.order_desk.specs.Checked.{IsChecked}
use Rattle.order_desk.specs.RightRows.{is_book_row}
use Rattle.order_desk.specs.Rows.{book_rows, draft_row}
use Rattle.order_desk.proofs.FirstWrong.{read_all, read_right}
use Rattle.order_desk.proofs.CheckedRows.{AreLeft, left_more, left_wrong, none_left}
use Rattle.order_desk.proofs.BookRows.{IsBookOf}
use Rattle.order_desk.proofs.book_rows.books_of.Goals as goal

pub loop-place-preserved : goal.loop-place-preserved
loop-place-preserved g c =
    let drafts : List DraftRow = map draft_row c.args.drafts.now.entries in
    let rows : List BookRow = c.args.rows.items in
    let books : List KeptBook = c.loop-place.books.items in
    let rest : List BookPlace = c.pop_front.new.self.items in
    let place = c.in-Some.place in
    let made = c.in-Ok.ensures in
    subst (λ l. AreLeft drafts rows l rest) (sym c.in_ok-push-in-Ok.ensures.items)
    (left_more drafts rows books place rest c.in-Ok.book
    (subst (AreLeft drafts rows books) c.in-Some.ensures.items c.loop-place.invariant)
    (subst (λ l. (row : BookRow) → IsChecked row place → IsBookOf drafts l row c.in-Ok.book) c.deref.ensures.value
    (λ row checked. record {
      right = made.right row checked;
      row_is = made.row row checked;
      in_force = made.in_force;
      released = made.released;
    })))

pub returns-in-Err-Refused-clause-wrong : goal.returns-in-Err-Refused-clause-wrong
returns-in-Err-Refused-clause-wrong g c =
    let drafts : List DraftRow = map draft_row c.args.drafts.now.entries in
    let rows : List BookRow = c.args.rows.items in
    let books : List KeptBook = c.loop-place.books.items in
    let rest : List BookPlace = c.pop_front.new.self.items in
    let place = c.in-Some.place in
    let wrong : (row : BookRow) → IsChecked row place → is_book_row drafts (book_rows 1 c.deref.result.now) row ≡ false =
    λ row checked. rw c.in-Err-Refused.field-0-is at (c.in-Err-Refused.ensures.wrong row checked) in
    let counted : length books ≡ c.len.result = omega (arith, c.len.ensures, c.loop-place.books.ok.0) in
    left_wrong drafts rows books place rest
    (subst (AreLeft drafts rows books) c.in-Some.ensures.items c.loop-place.invariant)
    (subst (λ l. (row : BookRow) → IsChecked row place → is_book_row drafts (book_rows 1 l) row ≡ false) c.deref.ensures.value
    wrong)
    ∙ ap (λ n. Some (n + 1)) counted

pub returns-clause-right : goal.returns-clause-right
returns-clause-right g c =
    let drafts : List DraftRow = map draft_row c.args.drafts.now.entries in
    let rows : List BookRow = c.args.rows.items in
    let books : List KeptBook = c.loop-place.books.items in
    let none : c.loop-place.rest.items ≡ [] = search rules in
    read_right (is_book_row drafts) rows (book_rows 1 books) (none_left drafts rows books c.loop-place.rest.items none c.loop-place.invariant).read

pub returns-clause-rows : goal.returns-clause-rows
returns-clause-rows g c =
    let drafts : List DraftRow = map draft_row c.args.drafts.now.entries in
    let rows : List BookRow = c.args.rows.items in
    let books : List KeptBook = c.loop-place.books.items in
    let none : c.loop-place.rest.items ≡ [] = search rules in
    read_all (is_book_row drafts) rows (book_rows 1 books) (none_left drafts rows books c.loop-place.rest.items none c.loop-place.invariant).read
