use Rattle.std.proofs.Common.{◌≡◌, [], None, Some, map, sym, ap, subst, ◌∙◌}
use Rattle.keeper.specs.Rows.{kept_of}
use Rattle.order_desk.specs.RightRows.{bad_form, first_wrong, is_book_row, is_draft_row, is_order_row, is_withdrawn_row}
use Rattle.order_desk.specs.Rows.{book_rows, draft_row}
use Rattle.order_desk.proofs.StartRead.{AllRead, BooksRead, DraftsRead, OrdersRead, book_read_bad, few_read, form_by, names_read, none_read_bad, order_read_bad, told_in, valid_read, withdrawn_read_bad}
use Rattle.order_desk.proofs.StartRows.{draft_is_bad, form_is_bad}
use Rattle.order_desk.proofs.start.tables_of.Given.{Over}
use Rattle.order_desk.proofs.start.tables_of.Goals.{In-Ok, In-Ok-books_of, In-Ok-orders_of, In-Ok-withdraw_all}
use Rattle.order_desk.proofs.start.tables_of.Goals as goal

-- what is known once each table is read
drafts_read : (g : Over) (c : In-Ok g) → DraftsRead (kept_of c.args.rows) c.in-Ok.drafts.entries
drafts_read g c = record {
  form = c.is_form.ensures ∙ ap form_by c.if-not-is_form.false;
  right = c.in-Ok.ensures.right;
  rows = c.in-Ok.ensures.rows;
}

books_read : (g : Over) (c : In-Ok-books_of g) → DraftsRead (kept_of c.args.rows) c.in-Ok.drafts.entries
    → BooksRead (kept_of c.args.rows) c.in-Ok.drafts.entries c.in-Ok-books_of.books.items
books_read g c drafts = record {
  drafts = drafts;
  right = c.in-Ok-books_of.ensures.right;
  rows = c.in-Ok-books_of.ensures.rows;
  released = c.in-Ok-books_of.ensures.released;
}

orders_read : (g : Over) (c : In-Ok-orders_of g) → BooksRead (kept_of c.args.rows) c.in-Ok.drafts.entries c.in-Ok-books_of.books.items
    → OrdersRead (kept_of c.args.rows) c.in-Ok.drafts.entries c.in-Ok-books_of.books.items c.in-Ok-orders_of.orders.entries
orders_read g c books = record {
  books = books;
  right = ap (λ books. first_wrong (is_order_row (book_rows 1 books)) [] (kept_of c.args.rows).orders) (sym c.deref.ensures.value)
      ∙ c.in-Ok-orders_of.ensures.right;
  rows = c.in-Ok-orders_of.ensures.rows;
  codes = c.in-Ok-orders_of.ensures.named;
}

all_read : (g : Over) (c : In-Ok-withdraw_all g)
    → OrdersRead (kept_of c.args.rows) c.in-Ok.drafts.entries c.in-Ok-books_of.books.items c.in-Ok-orders_of.orders.entries
    → AllRead (kept_of c.args.rows) c.in-Ok.drafts.entries c.in-Ok-books_of.books.items c.in-Ok-orders_of.orders.entries c.withdraw_all.new.books.items
all_read g c orders = record {
  orders = orders;
  right = ap (first_wrong (is_withdrawn_row (kept_of c.args.rows).form (book_rows 1 c.in-Ok-books_of.books.items)) []) (sym c.deref-2.ensures.value)
      ∙ c.in-Ok-withdraw_all.ensures.right;
  rows = c.in-Ok-withdraw_all.ensures.rows ∙ c.deref-2.ensures.value;
  same = c.in-Ok-withdraw_all.ensures.books;
  released = c.in-Ok-withdraw_all.ensures.still;
}

pub returns-then-not-is_form-clause-wrong : goal.returns-then-not-is_form-clause-wrong
returns-then-not-is_form-clause-wrong g c = form_is_bad (kept_of c.args.rows) (c.is_form.ensures ∙ ap form_by c.if-not-is_form.true)

pub returns-in-Err-clause-wrong : goal.returns-in-Err-clause-wrong
returns-in-Err-clause-wrong g c =
    let k = kept_of c.args.rows in
    let form : bad_form k.form ≡ None = c.is_form.ensures ∙ ap form_by c.if-not-is_form.false in
    told_in k 1 (λ place. first_wrong is_draft_row [] k.drafts ≡ Some place) c.in-Err.fail c.in_table.result c.in_table.ensures
    c.in-Err.ensures.wrong (λ place is. draft_is_bad k place form is)

pub books_of-requires-clause-names : goal.books_of-requires-clause-names
books_of-requires-clause-names g c =
    let at = goal.at.books_of-requires-clause-names g c in
    names_read (kept_of c.args.rows) c.in-Ok.drafts.entries (drafts_read g at.In-Ok)

pub returns-in-Err-books_of-clause-wrong : goal.returns-in-Err-books_of-clause-wrong
returns-in-Err-books_of-clause-wrong g c =
    let at = goal.at.returns-in-Err-books_of-clause-wrong g c in
    let k = kept_of c.args.rows in
    let es = c.in-Ok.drafts.entries in
    told_in k 2 (λ place. first_wrong (is_book_row (map draft_row es)) [] k.books ≡ Some place) c.in-Err-books_of.fail
    c.in_table-in-Err-books_of.result c.in_table-in-Err-books_of.ensures c.in-Err-books_of.ensures.wrong
    (λ place is. book_read_bad k es place (drafts_read g at.In-Ok) is)

pub orders_of-requires-clause-few : goal.orders_of-requires-clause-few
orders_of-requires-clause-few g c =
    let at = goal.at.orders_of-requires-clause-few g c in
    let k = kept_of c.args.rows in
    let es = c.in-Ok.drafts.entries in
    few_read k es c.deref.result.now
    (subst (BooksRead k es) (sym c.deref.ensures.value) (books_read g at.In-Ok-books_of (drafts_read g at.In-Ok)))

pub returns-in-Err-orders_of-clause-wrong : goal.returns-in-Err-orders_of-clause-wrong
returns-in-Err-orders_of-clause-wrong g c =
    let at = goal.at.returns-in-Err-orders_of-clause-wrong g c in
    let k = kept_of c.args.rows in
    let es = c.in-Ok.drafts.entries in
    let bs = c.deref.result.now in
    told_in k 3 (λ place. first_wrong (is_order_row (book_rows 1 bs)) [] k.orders ≡ Some place) c.in-Err-orders_of.fail
    c.in_table-in-Err-orders_of.result c.in_table-in-Err-orders_of.ensures c.in-Err-orders_of.ensures.wrong
    (λ place is. order_read_bad k es bs place
    (subst (BooksRead k es) (sym c.deref.ensures.value) (books_read g at.In-Ok-books_of (drafts_read g at.In-Ok))) is)

pub withdraw_all-requires-clause-few : goal.withdraw_all-requires-clause-few
withdraw_all-requires-clause-few g c =
    let at = goal.at.withdraw_all-requires-clause-few g c in
    few_read (kept_of c.args.rows) c.in-Ok.drafts.entries c.in-Ok-books_of.books.items
    (books_read g at.In-Ok-books_of (drafts_read g at.In-Ok))

pub returns-clause-wrong : goal.returns-clause-wrong
returns-clause-wrong g c =
    let at = goal.at.returns-clause-wrong g c in
    let k = kept_of c.args.rows in
    let bs = c.in-Ok-books_of.books.items in
    withdrawn_read_bad k c.in-Ok.drafts.entries bs c.in-Ok-orders_of.orders.entries c.in-Err-withdraw_all.place
    (orders_read g at.In-Ok-orders_of (books_read g at.In-Ok-books_of (drafts_read g at.In-Ok)))
    (ap (first_wrong (is_withdrawn_row k.form (book_rows 1 bs)) []) (sym c.deref-2.ensures.value) ∙ c.in-Err-withdraw_all.ensures.wrong)

pub returns-in-Ok-withdraw_all-clause-right : goal.returns-in-Ok-withdraw_all-clause-right
returns-in-Ok-withdraw_all-clause-right g c =
    let at = goal.at.returns-in-Ok-withdraw_all-clause-right g c in
    none_read_bad (kept_of c.args.rows) c.in-Ok.drafts.entries c.in-Ok-books_of.books.items c.in-Ok-orders_of.orders.entries
    c.withdraw_all.new.books.items
    (all_read g at.In-Ok-withdraw_all (orders_read g at.In-Ok-orders_of (books_read g at.In-Ok-books_of (drafts_read g at.In-Ok))))

pub returns-in-Ok-withdraw_all-clause-valid : goal.returns-in-Ok-withdraw_all-clause-valid
returns-in-Ok-withdraw_all-clause-valid g c =
    let at = goal.at.returns-in-Ok-withdraw_all-clause-valid g c in
    valid_read (kept_of c.args.rows) c.in-Ok.drafts.entries c.in-Ok-books_of.books.items c.in-Ok-orders_of.orders.entries
    c.withdraw_all.new.books.items
    (all_read g at.In-Ok-withdraw_all (orders_read g at.In-Ok-orders_of (books_read g at.In-Ok-books_of (drafts_read g at.In-Ok))))
