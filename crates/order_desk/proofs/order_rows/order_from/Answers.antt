use Rattle.std.proofs.Common.{◌≡◌, true, length, map, refl, sym, ap, subst, ◌∙◌, arith}
use Rattle.std.specs.List.{list_all}
use Rattle.std.proofs.lemmas.Bool.{lt-ltb}
use Rattle.std.proofs.lemmas.List.{length-map}
use Rattle.pb_base.specs.Names.{is_name, is_code_name}
use Rattle.order_desk.specs.declared.limits.TheConstants.{MOST_ORDERS}
use Rattle.order_desk.specs.RightRows.{codes_in}
use Rattle.order_desk.specs.Rows.{book_rows, order_row}
use Rattle.order_desk.proofs.OrderRows.{codes_named, no_book, not_last, not_under, order_rises, order_row_is, past_days, row_is, told_under}
use Rattle.order_desk.proofs.order_rows.order_from.Goals.{then-row-from-2-via-then-row-from-2, then-row-from-2-via-else-row-from-2+then-row-books}
use Rattle.order_desk.proofs.order_rows.order_from.Goals as goal

pub returns-then-row-from-2-clause-wrong : goal.returns-then-row-from-2-clause-wrong
returns-then-row-from-2-clause-wrong c =
    let books = c.args.books.now in
    let before = map order_row c.args.orders.now.entries in
    let row = c.args.row.now in
    elim c.then-row-from-2.branch [
      | then-row-from-2-via-then-row-from-2 w ↦
          past_days (book_rows 1 books) before row (grind (arith, w.if-row-from-2.true, c.from-2.ensures))
      | then-row-from-2-via-else-row-from-2+then-row-books w ↦
          not_under (book_rows 1 books) before row (no_book books row (omega (arith, w.if-row-books.true)))
    ]

pub returns-then-not-comes_last-clause-wrong : goal.returns-then-not-comes_last-clause-wrong
returns-then-not-comes_last-clause-wrong c =
    let es = c.args.orders.now.entries in
    let row = c.args.row.now in
    let caller : row.caller ≡ c.in-Some.caller = sym (c.in-Some.ensures.name.0 ∙ c.as_slice.ensures) in
    not_last (book_rows 1 c.args.books.now) (map order_row es) row
    (order_rises es row (record { caller = c.in-Some.caller; number = row.number }) caller refl
    ∙ sym c.comes_last.ensures ∙ c.if-not-comes_last.true)

pub returns-then-not-accepted-clause-wrong : goal.returns-then-not-accepted-clause-wrong
returns-then-not-accepted-clause-wrong c =
    let books = c.args.books.now in
    let row = c.args.row.now in
    let named : list_all is_code_name (codes_in row.codes) ≡ true =
    subst (λ t. list_all is_code_name (codes_in t) ≡ true) c.as_slice-in-Some.ensures c.in_ok-codes_of-in-Some.ensures.named in
    not_under (book_rows 1 books) (map order_row c.args.orders.now.entries) row
    (told_under books row c.args.accepted c.requires.released c.requires.judged (omega (arith, c.if-row-from-2.false, c.from-2.ensures)) named
    ∙ c.if-not-accepted.true)

pub returns-else-not-accepted-clause-right : goal.returns-else-not-accepted-clause-right
returns-else-not-accepted-clause-right c =
    let books = c.args.books.now in
    let es = c.args.orders.now.entries in
    let row = c.args.row.now in
    let caller : row.caller ≡ c.in-Some.caller = sym (c.in-Some.ensures.name.0 ∙ c.as_slice.ensures) in
    let named : list_all is_code_name (codes_in row.codes) ≡ true =
    subst (λ t. list_all is_code_name (codes_in t) ≡ true) c.as_slice-in-Some.ensures c.in_ok-codes_of-in-Some.ensures.named in
    order_row_is (book_rows 1 books) (map order_row es) row (record {
      caller = subst (λ n. is_name n ≡ true) c.as_slice.ensures c.in-Some.ensures.name.1;
      least = grind (arith, c.if-row-lt1.false);
      most = grind (arith, c.if-row-from.false, c.from.ensures);
      rises = order_rises es row (record { caller = c.in-Some.caller; number = row.number }) caller refl
          ∙ sym c.comes_last.ensures ∙ c.if-not-comes_last.false;
      room = lt-ltb (length (map order_row es)) MOST_ORDERS
          (omega (arith, length-map es order_row, c.if-len-ge-MOST_ORDERS.false, c.len.ensures.len));
      codes = named;
      day = grind (arith, c.if-row-from-2.false, c.from-2.ensures);
      under = told_under books row c.args.accepted c.requires.released c.requires.judged (omega (arith, c.if-row-from-2.false, c.from-2.ensures)) named
          ∙ c.if-not-accepted.false;
    })

pub returns-else-not-accepted-clause-row : goal.returns-else-not-accepted-clause-row
returns-else-not-accepted-clause-row c =
    row_is c.args.row.now c.in-Some.caller c.in_ok-codes_of-in-Some.field-0 (c.in-Some.ensures.name.0 ∙ c.as_slice.ensures)
    (c.in_ok-codes_of-in-Some.ensures.codes ∙ ap codes_in c.as_slice-in-Some.ensures)

pub returns-else-not-accepted-clause-named : goal.returns-else-not-accepted-clause-named
returns-else-not-accepted-clause-named c =
    codes_named c.as_slice-in-Some.result.now c.in_ok-codes_of-in-Some.field-0 c.in_ok-codes_of-in-Some.ensures.codes
    c.in_ok-codes_of-in-Some.ensures.named
