-- Rows while they are gathered.
use Rattle.std.specs.Prelude.{ℕ, map, Option, Some, None}
use Rattle.std.specs.Global.{Vec}
use Rattle.keeper.specs.declared.rows.DraftRow.{DraftRow}
use Rattle.keeper.specs.declared.rows.BookRow.{BookRow}
use Rattle.keeper.specs.declared.rows.OrderRow.{OrderRow}
use Rattle.keeper.specs.Rows.{Kept, bare}
use Rattle.journal_keeper.specs.declared.tables.DraftFields.{DraftFields}
use Rattle.journal_keeper.specs.declared.tables.BookFields.{BookFields}
use Rattle.journal_keeper.specs.declared.tables.OrderFields.{OrderFields}
use Rattle.journal_keeper.specs.declared.tables.Tables.{Tables}

-- the row of an entry
abbrev pub draft_of : Vec ℕ × DraftFields → DraftRow
draft_of e = record { name = e.0.items; owner = e.1.owner; revision = e.1.revision; text = e.1.text }

abbrev pub book_of : ℕ × BookFields → BookRow
book_of e = record { number = e.0; draft = e.1.draft; revision = e.1.revision; text = e.1.text; cert = e.1.cert }

abbrev pub order_of : (Vec ℕ × ℕ) × OrderFields → OrderRow
order_of e = record { caller = e.0.0.items; number = e.0.1; book = e.1.book; day = e.1.day; codes = e.1.codes }

abbrev pub number_of_entry : {U : Type 0} → ℕ × U → ℕ
number_of_entry e = e.0

abbrev pub kept_by : Tables → Kept
kept_by t = record {
  form = 2;
  drafts = map draft_of t.drafts.entries;
  books = map book_of t.books.entries;
  orders = map order_of t.orders.entries;
  withdrawn = map number_of_entry t.withdrawn.entries;
}

-- no rows where what was read is no journal
abbrev pub kept_where_found : Option Tables → Kept
kept_where_found None = bare 3
kept_where_found (Some tables) = kept_by tables
