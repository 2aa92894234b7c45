use Rattle.std.proofs.Common.{◌≡◌, ◌+◌, true, false, map, length, subst}
use Rattle.std.specs.Prelude.{IfOk}
use Rattle.keeper.specs.declared.rows.BookRow.{BookRow}
use Rattle.order_desk.specs.RightRows.{is_book_row}
use Rattle.order_desk.specs.Rows.{book_row, book_rows, draft_row}
use Rattle.pb_base.specs.Answers.{IfRefused}
use Rattle.order_desk.proofs.CheckedRows.{row_again, wrong_cert}
use Rattle.order_desk.proofs.book_rows.book_from.Goals as goal

pub returns-in-Err-clause-wrong : goal.returns-in-Err-clause-wrong
returns-in-Err-clause-wrong c = λ row checked.
    wrong_cert _ (map draft_row c.args.drafts.now.entries) (book_rows 1 c.args.books.now) row c.args.place c.in-Err.fail c.map.result
    c.in-Err.is c.map.ensures checked

pub returns-in-Ok-clause-right : goal.returns-in-Ok-clause-right
returns-in-Ok-clause-right c = λ row checked.
    subst (λ (r : BookRow). IfOk c.kept_from.result (λ book. is_book_row (map draft_row c.args.drafts.now.entries) (book_rows 1 c.args.books.now) r ≡ true))
    (row_again row c.args.place c.in-Ok.released c.in-Ok.is checked) c.kept_from.ensures.right

pub returns-in-Ok-clause-row : goal.returns-in-Ok-clause-row
returns-in-Ok-clause-row c = λ row checked.
    subst (λ (r : BookRow). IfOk c.kept_from.result (λ book. book_row (length c.args.books.now + 1) book ≡ r))
    (row_again row c.args.place c.in-Ok.released c.in-Ok.is checked) c.kept_from.ensures.row

pub returns-in-Ok-clause-wrong : goal.returns-in-Ok-clause-wrong
returns-in-Ok-clause-wrong c = λ row checked.
    subst (λ (r : BookRow). IfRefused c.kept_from.result (λ none. is_book_row (map draft_row c.args.drafts.now.entries) (book_rows 1 c.args.books.now) r ≡ false))
    (row_again row c.args.place c.in-Ok.released c.in-Ok.is checked) c.kept_from.ensures.wrong
