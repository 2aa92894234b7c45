-- The first bad row by its table, and the rows of tables that were read.
use Rattle.std.proofs.Common.{◌≡◌, ℕ, ◌==◌, Bool, true, false, ◌||◌, [], Option, None, Some, map, refl, sym, ap, ◌∙◌}
use Rattle.std.specs.Prelude.{if◌then◌else◌}
use Rattle.std.specs.Option.{option_or}
use Rattle.std.proofs.lemmas.Bool.{eqb-true}
use Rattle.keeper.specs.Rows.{Kept, migrated}
use Rattle.order_desk.specs.RightRows.{bad_form, first_bad, first_wrong, in_table, is_book_row, is_draft_row, is_order_row, is_withdrawn_row}
use Rattle.order_desk.specs.Rows.{book_rows, draft_row, order_row, rows_of, withdrawn_rows}
use Rattle.order_desk.specs.Tables.{Tables}

-- the tables are tested one after the other
abbrev firsts : Option (ℕ × ℕ) → Option ℕ → Option ℕ → Option ℕ → Option ℕ → Option (ℕ × ℕ)
firsts form drafts books orders withdrawn =
    option_or form (option_or (in_table 1 drafts) (option_or (in_table 2 books) (option_or (in_table 3 orders) (in_table 4 withdrawn))))

-- the form is right, and the rows of the first tables
pub record DraftsAreRight (k : Kept) : Type 0 where
  pub form : bad_form k.form ≡ None
  pub drafts : first_wrong is_draft_row [] k.drafts ≡ None

pub record BooksAreRight (k : Kept) : Type 0 where
  pub before : DraftsAreRight k
  pub books : first_wrong (is_book_row k.drafts) [] k.books ≡ None

pub record OrdersAreRight (k : Kept) : Type 0 where
  pub before : BooksAreRight k
  pub orders : first_wrong (is_order_row k.books) [] k.orders ≡ None

module _ (k : Kept) where
  abbrev drafts : Option ℕ
  drafts = first_wrong is_draft_row [] k.drafts

  abbrev books : Option ℕ
  books = first_wrong (is_book_row k.drafts) [] k.books

  abbrev orders : Option ℕ
  orders = first_wrong (is_order_row k.books) [] k.orders

  abbrev withdrawn : Option ℕ
  withdrawn = first_wrong (is_withdrawn_row k.form k.books) [] k.withdrawn

  behind_form : bad_form k.form ≡ None → first_bad k ≡ firsts None drafts books orders withdrawn
  unfolding first_bad
  behind_form right = ap (λ f. firsts f drafts books orders withdrawn) right

  behind_drafts : DraftsAreRight k → first_bad k ≡ firsts None None books orders withdrawn
  behind_drafts right = behind_form right.form ∙ ap (λ d. firsts None d books orders withdrawn) right.drafts

  behind_books : BooksAreRight k → first_bad k ≡ firsts None None None orders withdrawn
  behind_books right = behind_drafts right.before ∙ ap (λ b. firsts None None b orders withdrawn) right.books

  behind_orders : OrdersAreRight k → first_bad k ≡ in_table 4 withdrawn
  behind_orders right = behind_books right.before ∙ ap (λ o. firsts None None None o withdrawn) right.orders

  pub form_is_bad : bad_form k.form ≡ Some (0, 0) → first_bad k ≡ Some (0, 0)
  unfolding first_bad
  form_is_bad is = ap (λ f. firsts f drafts books orders withdrawn) is

  pub draft_is_bad : (place : ℕ) → bad_form k.form ≡ None → drafts ≡ Some place → first_bad k ≡ Some (1, place)
  draft_is_bad place right is = behind_form right ∙ ap (λ d. firsts None d books orders withdrawn) is

  pub book_is_bad : (place : ℕ) → DraftsAreRight k → books ≡ Some place → first_bad k ≡ Some (2, place)
  book_is_bad place right is = behind_drafts right ∙ ap (λ b. firsts None None b orders withdrawn) is

  pub order_is_bad : (place : ℕ) → BooksAreRight k → orders ≡ Some place → first_bad k ≡ Some (3, place)
  order_is_bad place right is = behind_books right ∙ ap (λ o. firsts None None None o withdrawn) is

  pub withdrawn_is_bad : (place : ℕ) → OrdersAreRight k → withdrawn ≡ Some place → first_bad k ≡ Some (4, place)
  withdrawn_is_bad place right is = behind_orders right ∙ ap (in_table 4) is

  pub none_is_bad : OrdersAreRight k → withdrawn ≡ None → first_bad k ≡ None
  none_is_bad right is = behind_orders right ∙ ap (in_table 4) is

-- rows of form 2 as they are migrated
as_migrated : (k : Kept) → bad_form k.form ≡ None → (record k { form = 2 }) ≡ migrated k
as_migrated k right = by (k.form == 1) refl (k.form == 2) refl right
  where
    New : Kept
    New = record k { form = 2 }

    Bad : Option (ℕ × ℕ)
    Bad = Some (0, 0)

    by : (one : Bool) → (k.form == 1) ≡ one → (two : Bool) → (k.form == 2) ≡ two → (if one || two then None else Bad) ≡ None
        → New ≡ migrated k
    by true one two twos h = sym (ap (λ b. if b then New else k) one)
    by false one true two h =
        (λ i. record k { form = sym (eqb-true k.form 2 two) i }) ∙ sym (ap (λ b. if b then New else k) one)
    by false one false two h = cc

-- each table has the rows that were told
pub record HasRows (t : Tables) (k : Kept) : Type 0 where
  pub drafts : map draft_row t.drafts ≡ k.drafts
  pub books : book_rows 1 t.books ≡ k.books
  pub orders : map order_row t.orders ≡ k.orders
  pub withdrawn : withdrawn_rows 1 t.books ≡ k.withdrawn

pub rows_are : (t : Tables) (k : Kept) → HasRows t k → bad_form k.form ≡ None → rows_of t ≡ migrated k
rows_are t k has right =
    (λ i. record { form = 2; drafts = has.drafts i; books = has.books i; orders = has.orders i; withdrawn = has.withdrawn i })
    ∙ as_migrated k right
