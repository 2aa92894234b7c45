-- Tables that were read one after the other, each from rows that are right.
use Rattle.std.proofs.Common.{◌≡◌, ℕ, ◌≤◌, true, List, [], Bool, Option, None, Some, length, map, sym, ap, ◌∙◌}
use Rattle.std.specs.Prelude.{if◌then◌else◌}
use Rattle.std.specs.List.{AllByRecursion}
use Rattle.desk_words.specs.declared.order_words.OrderWords.{OrderWords}
use Rattle.keeper.specs.Rows.{Kept, migrated}
use Rattle.pb_base.specs.Answers.{Changes, ForRefusal}
use Rattle.pb_base.specs.Names.{is_name}
use Rattle.pb_base.specs.declared.answer.Fail.{Fail}
use Rattle.pb_base.specs.declared.answer.Fail.TheVariants.{Refused, Memory}
use Rattle.release.specs.Release.{IsRelease}
use Rattle.order_desk.specs.declared.draft.Draft.{Draft}
use Rattle.order_desk.specs.declared.kept_book.KeptBook.{KeptBook}
use Rattle.order_desk.specs.declared.start.BadPlace.{BadPlace}
use Rattle.order_desk.specs.declared.limits.TheConstants.{MOST_BOOKS}
use Rattle.order_desk.specs.declared.order_key.OrderKey.{OrderKey}
use Rattle.order_desk.specs.Fits.{AreCodes}
use Rattle.order_desk.specs.RightRows.{bad_form, first_bad, first_wrong, is_book_row, is_draft_row, is_order_row, is_withdrawn_row}
use Rattle.order_desk.specs.Rows.{book_rows, draft_row, order_row, rows_of, withdrawn_rows}
use Rattle.order_desk.specs.Valid.{IsValid}
use Rattle.order_desk.proofs.StartRows.{BooksAreRight, DraftsAreRight, OrdersAreRight, book_is_bad, none_is_bad, order_is_bad, rows_are, withdrawn_is_bad}
use Rattle.order_desk.proofs.StartTables.{books_right, draft_names, drafts_right, tables_right}

pub record DraftsRead (k : Kept) (es : List (List ℕ × Draft)) : Type 0 where
  pub form : bad_form k.form ≡ None
  pub right : first_wrong is_draft_row [] k.drafts ≡ None
  pub rows : map draft_row es ≡ k.drafts

pub record BooksRead (k : Kept) (es : List (List ℕ × Draft)) (bs : List KeptBook) : Type 0 where
  pub drafts : DraftsRead k es
  pub right : first_wrong (is_book_row (map draft_row es)) [] k.books ≡ None
  pub rows : book_rows 1 bs ≡ k.books
  pub released : AllByRecursion (λ b. IsRelease b.released) bs

pub record OrdersRead (k : Kept) (es : List (List ℕ × Draft)) (bs : List KeptBook) (os : List (OrderKey × OrderWords)) : Type 0 where
  pub books : BooksRead k es bs
  pub right : first_wrong (is_order_row (book_rows 1 bs)) [] k.orders ≡ None
  pub rows : map order_row os ≡ k.orders
  pub codes : AllByRecursion (λ o. AreCodes o.1.codes) os

-- the books as they are once some of them are withdrawn
pub record AllRead (k : Kept) (es : List (List ℕ × Draft)) (bs : List KeptBook) (os : List (OrderKey × OrderWords)) (new : List KeptBook) : Type 0 where
  pub orders : OrdersRead k es bs os
  pub right : first_wrong (is_withdrawn_row k.form (book_rows 1 bs)) [] k.withdrawn ≡ None
  pub rows : withdrawn_rows 1 new ≡ k.withdrawn
  pub same : book_rows 1 new ≡ book_rows 1 bs
  pub released : AllByRecursion (λ b. IsRelease b.released) new

-- how the test of a form is answered
abbrev pub form_by : Bool → Option (ℕ × ℕ)
form_by right = if right then None else Some (0, 0)

-- a wrong row of a table as the first bad one
pub told_in : (k : Kept) (table : ℕ) (P : ℕ → Type 0) (fail : Fail ℕ) (given : Fail BadPlace)
    → Changes fail (λ place bad. bad ≡ record { table = table; place = place }) given → ForRefusal fail P
    → ((place : ℕ) → P place → first_bad k ≡ Some (table, place))
    → ForRefusal given (λ bad. first_bad k ≡ Some (bad.table, bad.place))
told_in k table P (Refused place) (Refused bad) changes wrong so =
    so place wrong ∙ ap (λ (b : BadPlace). Some (b.table, b.place)) (sym changes)
told_in k table P (Refused place) Memory changes wrong so = tt
told_in k table P Memory (Refused bad) changes wrong so = absurd changes
told_in k table P Memory Memory changes wrong so = tt

module _ (k : Kept) (es : List (List ℕ × Draft)) where
  drafts_are : DraftsRead k es → first_wrong is_draft_row [] (map draft_row es) ≡ None
  drafts_are read = ap (first_wrong is_draft_row []) read.rows ∙ read.right

  pub names_read : DraftsRead k es → AllByRecursion (λ d. is_name d.0 ≡ true) es
  names_read read = draft_names es (drafts_right es (drafts_are read)).all

  right_drafts : DraftsRead k es → DraftsAreRight k
  right_drafts read = record { form = read.form; drafts = read.right }

  -- books are tested by the drafts that were read
  pub book_read_bad : (place : ℕ) → DraftsRead k es → first_wrong (is_book_row (map draft_row es)) [] k.books ≡ Some place
      → first_bad k ≡ Some (2, place)
  book_read_bad place read is =
      book_is_bad k place (right_drafts read) (ap (λ drafts. first_wrong (is_book_row drafts) [] k.books) (sym read.rows) ∙ is)

  module _ (bs : List KeptBook) where
    books_are : BooksRead k es bs → first_wrong (is_book_row (map draft_row es)) [] (book_rows 1 bs) ≡ None
    books_are read = ap (first_wrong (is_book_row (map draft_row es)) []) read.rows ∙ read.right

    pub few_read : BooksRead k es bs → length bs ≤ MOST_BOOKS
    few_read read = (books_right es bs (drafts_right es (drafts_are read.drafts)) read.released (books_are read)).few_books

    right_books : BooksRead k es bs → BooksAreRight k
    right_books read = record {
      before = right_drafts read.drafts;
      books = ap (λ drafts. first_wrong (is_book_row drafts) [] k.books) (sym read.drafts.rows) ∙ read.right;
    }

    -- orders are tested by the books that were read
    pub order_read_bad : (place : ℕ) → BooksRead k es bs → first_wrong (is_order_row (book_rows 1 bs)) [] k.orders ≡ Some place
        → first_bad k ≡ Some (3, place)
    order_read_bad place read is =
        order_is_bad k place (right_books read) (ap (λ books. first_wrong (is_order_row books) [] k.orders) (sym read.rows) ∙ is)

    module _ (os : List (OrderKey × OrderWords)) where
      right_orders : OrdersRead k es bs os → OrdersAreRight k
      right_orders read = record {
        before = right_books read.books;
        orders = ap (λ books. first_wrong (is_order_row books) [] k.orders) (sym read.books.rows) ∙ read.right;
      }

      pub withdrawn_read_bad : (place : ℕ) → OrdersRead k es bs os
          → first_wrong (is_withdrawn_row k.form (book_rows 1 bs)) [] k.withdrawn ≡ Some place → first_bad k ≡ Some (4, place)
      withdrawn_read_bad place read is =
          withdrawn_is_bad k place (right_orders read)
          (ap (λ books. first_wrong (is_withdrawn_row k.form books) [] k.withdrawn) (sym read.books.rows) ∙ is)

      module _ (new : List KeptBook) where
        pub none_read_bad : AllRead k es bs os new → first_bad k ≡ None
        none_read_bad read =
            none_is_bad k (right_orders read.orders)
            (ap (λ books. first_wrong (is_withdrawn_row k.form books) [] k.withdrawn) (sym read.orders.books.rows) ∙ read.right)

        pub rows_read : AllRead k es bs os new → rows_of (record { drafts = es; books = new; orders = os }) ≡ migrated k
        rows_read read = rows_are (record { drafts = es; books = new; orders = os }) k (record {
          drafts = read.orders.books.drafts.rows;
          books = read.same ∙ read.orders.books.rows;
          orders = read.orders.rows;
          withdrawn = read.rows;
        }) read.orders.books.drafts.form

        pub valid_read : AllRead k es bs os new → IsValid (record { drafts = es; books = new; orders = os })
        valid_read read = tables_right (record { drafts = es; books = new; orders = os })
            (record { released = read.released; codes = read.orders.codes })
            (record {
              drafts = drafts_are read.orders.books.drafts;
              books = ap (first_wrong (is_book_row (map draft_row es)) []) read.same ∙ books_are read.orders.books;
              orders =
                  ap (first_wrong (is_order_row (book_rows 1 new)) []) read.orders.rows
                  ∙ ap (λ books. first_wrong (is_order_row books) [] k.orders) read.same ∙ read.orders.right;
            })
