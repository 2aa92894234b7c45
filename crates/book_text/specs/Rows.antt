-- The rows of a book's text.
use Rattle.std.specs.Prelude.{◌≡◌, ℕ, ◌≤◌, Bool, true, false, List, [], ◌∷◌, length, slice_index_or}
use Rattle.csv.specs.Reading.{default_config, records, strip_bom}
use Rattle.pb_base.specs.declared.limits.TheConstants.{MOST_TEXT_BYTES}

-- a row: its fields, from the left
abbrev pub Row : Type 0
Row = List (List ℕ)

-- the records that `csv` reads: commas, double quotes, no header row, one byte order mark dropped
abbrev pub rows_of : List ℕ → List Row
rows_of text = records default_config (strip_bom text)

-- where one was found, this row is the first of those that were left, and else none was left
abbrev pub IsNext : Bool → Row → List Row → List Row → Type 0
IsNext true row left rest = left ≡ row ∷ rest
IsNext false row left rest = left ≡ []

-- no field is longer than the longest text
abbrev pub IsShort : Row → Type 0
IsShort row = (place : ℕ) → length (slice_index_or row place []) ≤ MOST_TEXT_BYTES
