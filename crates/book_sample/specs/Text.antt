-- The text of rows: the fields of each joined by commas, and a line feed behind them. No field needs quotes.
--     line_of row          a row
--     text_of_rows rows    all of them
use Rattle.std.specs.Prelude.{ℕ, List, [], ◌∷◌, ◌++◌}
use Rattle.book_text.specs.Rows.{Row}

abbrev pub fields_behind : Row → List ℕ
fields_behind [] = 10 ∷ []
fields_behind (field ∷ fields) = 44 ∷ (field ++ fields_behind fields)

abbrev pub line_of : Row → List ℕ
line_of [] = 10 ∷ []
line_of (field ∷ fields) = field ++ fields_behind fields

abbrev pub text_of_rows : List Row → List ℕ
text_of_rows [] = []
text_of_rows (row ∷ rows) = line_of row ++ text_of_rows rows
