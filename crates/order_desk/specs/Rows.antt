-- The rows of what the desk keeps.
--     rows_of t           the tables, each entry as its row; the form is 2
--     IsDesk t told       the tables are valid, and the rows are theirs, where they are told
use Rattle.std.specs.Prelude.{Option, IfSome, ◌≡◌, ℕ, ◌+◌, List, [], ◌∷◌, map, if◌then◌else◌}
use Rattle.std.specs.List.{join_by}
use Rattle.desk_words.specs.declared.order_words.OrderWords.{OrderWords}
use Rattle.keeper.specs.Rows.{Kept}
use Rattle.keeper.specs.declared.rows.BookRow.{BookRow}
use Rattle.keeper.specs.declared.rows.DraftRow.{DraftRow}
use Rattle.keeper.specs.declared.rows.OrderRow.{OrderRow}
use Rattle.order_desk.specs.declared.draft.Draft.{Draft}
use Rattle.order_desk.specs.declared.kept_book.KeptBook.{KeptBook}
use Rattle.order_desk.specs.declared.order_key.OrderKey.{OrderKey}
use Rattle.order_desk.specs.Tables.{Tables}
use Rattle.order_desk.specs.Valid.{IsValid}

-- code names, parted by one space
abbrev pub codes_text : List (List ℕ) → List ℕ
codes_text codes = join_by (λ code. code) (32 ∷ []) codes

abbrev pub draft_row : List ℕ × Draft → DraftRow
draft_row e = record { name = e.0; owner = e.1.owner; revision = e.1.revision; text = e.1.text }

abbrev pub book_row : ℕ → KeptBook → BookRow
book_row number b = record {
  number = number;
  draft = b.draft;
  revision = b.revision;
  text = b.released.text;
  cert = b.released.cert;
}

abbrev pub order_row : OrderKey × OrderWords → OrderRow
order_row e = record {
  caller = e.0.caller;
  number = e.0.number;
  book = e.1.book;
  day = e.1.day;
  codes = codes_text e.1.codes;
}

-- the rows of books of which the first has this number
abbrev pub book_rows : ℕ → List KeptBook → List BookRow
book_rows number [] = []
book_rows number (b ∷ bs) = book_row number b ∷ book_rows (number + 1) bs

-- the numbers of those that are withdrawn
abbrev pub withdrawn_rows : ℕ → List KeptBook → List ℕ
withdrawn_rows number [] = []
withdrawn_rows number (b ∷ bs) =
    if b.withdrawn then number ∷ withdrawn_rows (number + 1) bs else withdrawn_rows (number + 1) bs

abbrev pub rows_of : Tables → Kept
rows_of t = record {
  form = 2;
  drafts = map draft_row t.drafts;
  books = book_rows 1 t.books;
  orders = map order_row t.orders;
  withdrawn = withdrawn_rows 1 t.books;
}

pub record IsDesk (t : Tables) (told : Option Kept) : Type 0 where
  pub valid : IsValid t
  pub kept : IfSome told (λ rows. rows ≡ rows_of t)
