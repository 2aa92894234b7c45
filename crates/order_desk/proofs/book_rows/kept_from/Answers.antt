use Rattle.std.proofs.Common.{◌≡◌, List, false, map, sym, ap, subst, ◌∙◌}
use Rattle.std.specs.Prelude.{is_some}
use Rattle.std.specs.Result.{is_ok}
use Rattle.pb_base.specs.Names.{is_name}
use Rattle.keeper.specs.declared.rows.BookRow.{BookRow}
use Rattle.keeper.specs.declared.rows.DraftRow.{DraftRow}
use Rattle.order_desk.specs.Checked.{with_texts}
use Rattle.order_desk.specs.RightRows.{has_reached}
use Rattle.order_desk.specs.Rows.{book_rows, draft_row}
use Rattle.order_desk.proofs.BookRows.{book_row_is, has_room, is_full, is_next, no_draft, not_next, not_reached, released_again, released_before}
use Rattle.order_desk.proofs.OrderRows.{made_of}
use Rattle.order_desk.proofs.book_rows.kept_from.Goals as goal
use Rattle.order_desk.proofs.book_rows.kept_from.Goals.{then-row-books-via-then-row-books, then-row-books-via-else-row-books+then-books-ge-MOST_BOOKS}

pub returns-then-row-books-clause-wrong : goal.returns-then-row-books-clause-wrong
returns-then-row-books-clause-wrong c =
    let drafts : List DraftRow = map draft_row c.args.drafts.now.entries in
    let row : BookRow = with_texts c.args.row c.args.released in
    elim c.then-row-books.branch [
      | then-row-books-via-then-row-books w ↦ not_next drafts c.args.books.now row w.if-row-books.true
      | then-row-books-via-else-row-books+then-books-ge-MOST_BOOKS w ↦ is_full drafts c.args.books.now row w.if-books-ge-MOST_BOOKS.true
    ]

pub returns-in-None-clause-wrong : goal.returns-in-None-clause-wrong
returns-in-None-clause-wrong c =
    let row : BookRow = with_texts c.args.row c.args.released in
    let none : is_name c.args.row.draft ≡ false = subst (λ n. is_name n ≡ false) c.as_slice.ensures c.in-None.ensures.none in
    not_reached (map draft_row c.args.drafts.now.entries) (book_rows 1 c.args.books.now) row
    (ap (λ found. has_reached found row) (no_draft c.args.row.draft c.args.drafts.now.entries c.requires.names none))

pub returns-then-is_some-clause-wrong : goal.returns-then-is_some-clause-wrong
returns-then-is_some-clause-wrong c =
    let row : BookRow = with_texts c.args.row c.args.released in
    let named : c.args.row.draft ≡ c.in-Some.draft = sym (c.in-Some.ensures.name.0 ∙ c.as_slice.ensures) in
    released_again (map draft_row c.args.drafts.now.entries) (book_rows 1 c.args.books.now) row
    (released_before row c.in-Some.draft c.in-Some-reached.revision named (sym c.in-Some-reached.ensures.1) 1 c.args.books.now
    ∙ sym (ap is_some c.released_as.ensures) ∙ sym c.is_some.ensures ∙ c.if-is_some.true)

pub returns-clause-right : goal.returns-clause-right
returns-clause-right c =
    let row : BookRow = with_texts c.args.row c.args.released in
    let named : c.args.row.draft ≡ c.in-Some.draft = sym (c.in-Some.ensures.name.0 ∙ c.as_slice.ensures) in
    book_row_is (map draft_row c.args.drafts.now.entries) (book_rows 1 c.args.books.now) row (record {
      next = is_next c.args.books.now row c.if-row-books.false;
      room = has_room c.args.books.now c.if-books-ge-MOST_BOOKS.false;
      reached = c.in-Some-reached.ensures.0;
      fresh = released_before row c.in-Some.draft c.in-Some-reached.revision named (sym c.in-Some-reached.ensures.1) 1 c.args.books.now
          ∙ sym (ap is_some c.released_as.ensures) ∙ sym c.is_some.ensures ∙ c.if-is_some.false;
      released = ap is_ok (made_of c.args.released c.book-book.ensures.release);
    })
