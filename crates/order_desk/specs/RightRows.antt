-- Which rows are right, and the first that is not.
--     first_bad rows    the table, 0 form, 1 drafts, 2 books, 3 orders, 4 withdrawn, and the row's place in it from 1
-- The tables are tested one after the other, and each row over the rows before it and the tables before its own.
use Rattle.std.specs.Prelude.{ℕ, ◌+◌, ◌==◌, Bool, false, not, ◌&&◌, ◌||◌, List, [], ◌∷◌, ◌++◌, Option, None, Some, Result, Ok, Err, find, length, nat_le, nat_lt, if◌then◌else◌}
use Rattle.std.specs.List.{list_all, list_any, slice_split}
use Rattle.std.specs.Option.{option_or, option_map}
use Rattle.std.specs.Ordering.{is_lt, nat_cmp}
use Rattle.std.specs.Result.{is_ok}
use Rattle.std.specs.declared.cmp.Ordering.{Ordering}
use Rattle.pb_base.specs.Names.{is_name, is_code_name, same_name}
use Rattle.pb_base.specs.declared.limits.TheConstants.{LAST_DAY, MOST_TEXT_BYTES}
use Rattle.release.specs.Certified.{release_of}
use Rattle.release.specs.Release.{Release}
use Rattle.release.specs.declared.certified.FromFault.{FromFault}
use Rattle.keeper.specs.Keys.{by_caller}
use Rattle.keeper.specs.Keys as keys
use Rattle.keeper.specs.Rows.{Kept}
use Rattle.keeper.specs.declared.rows.BookRow.{BookRow}
use Rattle.keeper.specs.declared.rows.DraftRow.{DraftRow}
use Rattle.keeper.specs.declared.rows.OrderRow.{OrderRow}
use Rattle.order_desk.specs.declared.limits.TheConstants.{MOST_BOOKS, MOST_DRAFTS, MOST_ORDERS, MOST_ORDER_NUMBER, MOST_REVISION}
use Rattle.order_desk.specs.Judging.{accepts}

-- the number from 1 of the first row that is not right, where each is tested over the rows before it
abbrev pub first_wrong : {R : Type 0} → (List R → R → Bool) → List R → List R → Option ℕ
first_wrong is_right before [] = None
first_wrong is_right before (row ∷ rows) =
    if is_right before row then first_wrong is_right (before ++ row ∷ []) rows else Some (length before + 1)

-- behind all of the rows before it
abbrev pub comes_last : {R : Type 0} → (R → R → Ordering) → List R → R → Bool
comes_last C before row = list_all (λ other. is_lt (C other row)) before

abbrev pub is_draft_row : List DraftRow → DraftRow → Bool
is_draft_row before row =
    is_name row.name && is_name row.owner && comes_last keys.by_name before row
    && nat_le 1 row.revision && nat_le row.revision MOST_REVISION
    && nat_le (length row.text) MOST_TEXT_BYTES && nat_lt (length before) MOST_DRAFTS

-- the draft has reached the revision of the book, and where it still has this one, the text too
abbrev pub has_reached : Option DraftRow → BookRow → Bool
has_reached None row = false
has_reached (Some draft) row =
    nat_lt row.revision draft.revision || (row.revision == draft.revision && same_name row.text draft.text)

-- two books were released of one revision of a draft
abbrev pub have_one_revision : BookRow → BookRow → Bool
have_one_revision a b = same_name a.draft b.draft && a.revision == b.revision

abbrev pub is_book_row : List DraftRow → List BookRow → BookRow → Bool
is_book_row drafts before row =
    row.number == length before + 1 && nat_lt (length before) MOST_BOOKS
    && has_reached (find (λ draft. same_name draft.name row.draft) drafts) row
    && not (list_any (have_one_revision row) before)
    && is_ok (release_of row.text row.cert)

-- codes are parted by one space
abbrev pub codes_in : List ℕ → List (List ℕ)
codes_in [] = []
codes_in (b ∷ bs) = slice_split (λ byte. byte == 32) (b ∷ bs)

abbrev pub accepts_row : Result Release FromFault → OrderRow → Bool
accepts_row (Ok r) row = accepts r.book row.day (codes_in row.codes)
accepts_row (Err fault) row = false

-- the book is there, and accepts the order
abbrev pub is_under : Option BookRow → OrderRow → Bool
is_under None row = false
is_under (Some book) row = accepts_row (release_of book.text book.cert) row

abbrev pub is_order_row : List BookRow → List OrderRow → OrderRow → Bool
is_order_row books before row =
    is_name row.caller && nat_le 1 row.number && nat_le row.number MOST_ORDER_NUMBER
    && comes_last by_caller before row && nat_lt (length before) MOST_ORDERS
    && list_all is_code_name (codes_in row.codes) && nat_le row.day LAST_DAY
    && is_under (find (λ book. book.number == row.book) books) row

abbrev pub is_withdrawn_row : ℕ → List BookRow → List ℕ → ℕ → Bool
is_withdrawn_row form books before number =
    form == 2 && comes_last nat_cmp before number && nat_le 1 number && nat_le number (length books)

abbrev pub in_table : ℕ → Option ℕ → Option (ℕ × ℕ)
in_table table place = option_map (λ k. (table, k)) place

abbrev pub bad_form : ℕ → Option (ℕ × ℕ)
bad_form form = if form == 1 || form == 2 then None else Some (0, 0)

unfoldable pub first_bad : Kept → Option (ℕ × ℕ)
first_bad rows =
    option_or (bad_form rows.form)
    (option_or (in_table 1 (first_wrong is_draft_row [] rows.drafts))
    (option_or (in_table 2 (first_wrong (is_book_row rows.drafts) [] rows.books))
    (option_or (in_table 3 (first_wrong (is_order_row rows.books) [] rows.orders))
    (in_table 4 (first_wrong (is_withdrawn_row rows.form rows.books) [] rows.withdrawn)))))
