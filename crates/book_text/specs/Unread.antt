-- What a reader of a text has left.
use Rattle.std.specs.Prelude.{◌≡◌, ℕ, ◌+◌, ◌≤◌, Bool, true, false, List, [], length, map, Option, Some, None, if◌then◌else◌}
use Rattle.std.specs.Borrow.{Bor}
use Rattle.csv.specs.Machine.{ends_at_end}
use Rattle.csv.specs.Reading.{Ready, default_config, is_flexible, reader_config, reader_state, reader_trim, records_from, source_of}
use Rattle.csv.specs.Records as csv
use Rattle.csv.specs.declared.parser.State.{State}
use Rattle.csv.specs.declared.reader.Reader.{Reader}
use Rattle.csv.specs.declared.reader.Trim.TheVariants as trim
use Rattle.pb_base.specs.declared.limits.TheConstants.{MOST_TEXT_BYTES}
use Rattle.book_text.specs.Rows.{Row}

-- the bytes that a reader of a slice has left
abbrev pub unread_text : Reader (Bor (List ℕ)) → Option (List ℕ)
unread_text reader = source_of (λ s. Some s.now) reader

-- the rows that are read of these bytes from a state
abbrev pub rows_from : State → Option (List ℕ) → List Row
rows_from state (Some text) = records_from default_config (length text + 1) state text
rows_from state None = []

abbrev pub unread_rows : Reader (Bor (List ℕ)) → List Row
unread_rows reader = rows_from (reader_state reader) (unread_text reader)

-- a reader that stands between two rows of a text, and takes each record for a row as it is, however long
pub record IsReading (reader : Reader (Bor (List ℕ))) : Type 0 where
  pub untrimmed : reader_trim reader ≡ trim.None
  pub flexible : is_flexible reader ≡ true
  pub ready : Ready reader
  pub config : reader_config reader ≡ default_config
  pub between : ends_at_end (reader_state reader) ≡ false
  pub text : (left : List ℕ) × (unread_text reader ≡ Some left) × (length left ≤ MOST_TEXT_BYTES)

-- the rows that are left where a text is parted by commas alone, or else of those that `csv` reads
abbrev pub rows_left : List Row → Option (List Row) → List Row
rows_left plain None = plain
rows_left plain (Some quoted) = quoted

-- the fields of a row that `csv` read, or else those that stand in the text
abbrev pub fields_in : Bool → List (Bor (List ℕ)) → csv.Row → Row
fields_in is_quoted parted quoted = if is_quoted then csv.fields_of quoted else map (λ f. f.now) parted
