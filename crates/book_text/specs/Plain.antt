-- The rows of a text that has no quotation mark: a line feed or a carriage return ends a row, and a comma a field.
--     plain_rows text     the rows, which are those that `csv` reads
use Rattle.std.specs.Prelude.{◌≡◌, ◌≢◌, ◌<◌, ◌≤◌, ◌⊎◌, ◌&&◌, ◌+◌, ◌==◌, if◌then◌else◌, nat_le, ℕ, Bool, List, ◌∷◌, Some, length, slice_index}
use Rattle.std.specs.Int.{w64, trailing_zeros}
use Rattle.csv.specs.Reading.{is_bom}
use Rattle.csv.specs.declared.parser.State.TheVariants as st
use Rattle.pb_base.specs.declared.limits.TheConstants.{MOST_TEXT_BYTES}
use Rattle.book_text.specs.Rows.{Row, IsShort}
use Rattle.book_text.specs.Unread.{rows_from}

abbrev pub plain_rows : List ℕ → List Row
plain_rows text = rows_from st.StartRecord (Some text)

abbrev pub HasNoQuote : List ℕ → Type 0
HasNoQuote text = (k : ℕ) → k < length text → slice_index text k ≢ 34

-- the text begins with a byte order mark
abbrev pub has_mark : List ℕ → Bool
has_mark text = nat_le 3 (length text) && is_bom (slice_index text 0) (slice_index text 1) (slice_index text 2)

abbrev pub IsLineEnd : ℕ → Type 0
IsLineEnd byte = (byte ≡ 10) ⊎ (byte ≡ 13)

-- the text does not begin with a line end
abbrev pub NoLineEnd : List ℕ → Type 0
NoLineEnd text = 0 < length text → (slice_index text 0 ≢ 10) × (slice_index text 0 ≢ 13)

pub record IsPlainText (text : List ℕ) : Type 0 where
  pub plain : HasNoQuote text
  pub few : length text ≤ MOST_TEXT_BYTES

-- this byte ends no field
abbrev pub EndsNoField : ℕ → Type 0
EndsNoField byte = (byte ≢ 44) × (byte ≢ 10) × (byte ≢ 13)

-- no byte from a place up to another ends a field
abbrev pub NoFieldEnds : List ℕ → ℕ → ℕ → Type 0
NoFieldEnds text from to = (k : ℕ) → from ≤ k → k < to → EndsNoField (slice_index text k)

-- the first field of the text ends here: before the first byte that ends one, or with the text
pub record EndsField (text : List ℕ) (end : ℕ) : Type 0 where
  pub within : end ≤ length text
  pub before : (k : ℕ) → k < end → EndsNoField (slice_index text k)
  pub found : end < length text → (slice_index text end ≡ 44) ⊎ IsLineEnd (slice_index text end)

-- of the n bytes from a place so many, from the first, end no field, and the next of them does
pub record IsRunIn (text : List ℕ) (at n run : ℕ) : Type 0 where
  pub within : run ≤ n
  pub before : NoFieldEnds text at (at + run)
  pub found : run < n → (slice_index text (at + run) ≡ 44) ⊎ IsLineEnd (slice_index text (at + run))

-- the place of the lowest bit that is set, or n
abbrev pub first_set : ℕ → ℕ → ℕ
first_set mask n = if mask == 0 then n else trailing_zeros w64 mask

-- the text begins with this row, and the rest stands behind it
pub record IsRowRead (text : List ℕ) (row : Row) (rest : List ℕ) : Type 0 where
  pub rows : plain_rows text ≡ row ∷ plain_rows rest
  pub plain : HasNoQuote rest
  pub fewer : length rest ≤ length text
  pub short : length text ≤ MOST_TEXT_BYTES → IsShort row
