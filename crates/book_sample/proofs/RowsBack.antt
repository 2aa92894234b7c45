-- The text of plain rows is UTF-8, and its rows are those rows.
use Rattle.std.proofs.Common.{◌≡◌, ◌==◌, ℕ, zero, suc, ◌+◌, ◌<◌, ◌≤◌, true, false, List, [], ◌∷◌, ◌++◌, Some, None, length, refl, ap, ◌∙◌, append_assoc, length-append, arith}
use Rattle.std.specs.List.{AllByRecursion}
use Rattle.std.specs.Str.{is_utf8, IsAscii}
use Rattle.std.proofs.lemmas.Bool.{and_parts, ne_eqb}
use Rattle.std.proofs.lemmas.Str.{is_utf8-from_IsUtf8, IsUtf8-from_ascii, IsAscii-append}
use Rattle.std.proofs.lemmas.Str.Ascii.{IsAscii-nil, IsAscii-cons}
use Rattle.csv.specs.Machine.{next_record}
use Rattle.csv.specs.Reading.{default_config, records_from, strip_bom}
use Rattle.csv.specs.Writing.{default_writer, field_text, fields_text, is_blank, row_text}
use Rattle.csv.specs.declared.parser.State.TheVariants as st
use Rattle.csv.proofs.RoundTrip.{read-write-many}
use Rattle.book_text.specs.Rows.{Row, rows_of}
use Rattle.book_sample.specs.Text.{fields_behind, line_of, text_of_rows}
use Rattle.book_sample.proofs.Plain.{is_plain_byte, is_plain, no_quotes, plain_below}

-- a row of two fields or more, each of them plain; the first has a byte
abbrev pub IsPlainRow : Row → Type 0
IsPlainRow [] = ⊥
IsPlainRow (first ∷ []) = ⊥
IsPlainRow (first ∷ second ∷ fields) = AllByRecursion (λ field. is_plain field ≡ true) (first ∷ second ∷ fields)

plain_text : (field : List ℕ) → is_plain field ≡ true → field_text default_writer field ≡ field
plain_text field h = rw (no_quotes field h) refl

behind_written : (fields : Row) → AllByRecursion (λ field. is_plain field ≡ true) fields → fields_text default_writer fields ++ 10 ∷ [] ≡ fields_behind fields
unfolding fields_text
behind_written [] h = refl
behind_written (field ∷ fields) h =
    rw (plain_text field h.0) (ap (λ (t : List ℕ). 44 ∷ t) (append_assoc field (fields_text default_writer fields) (10 ∷ []) ∙ ap (λ (t : List ℕ). field ++ t) (behind_written fields h.1)))

pub line_written : (first second : List ℕ) (fields : Row) → IsPlainRow (first ∷ second ∷ fields)
    → row_text default_writer (first ∷ second ∷ fields) ≡ line_of (first ∷ second ∷ fields)
unfolding is_blank
line_written first second fields h =
    append_assoc (field_text default_writer first) (fields_text default_writer (second ∷ fields)) (10 ∷ [])
    ∙ rw (plain_text first h.0) (ap (λ (t : List ℕ). first ++ t) (behind_written (second ∷ fields) h.1))

-- the next record of the text is the next row
next_row : (row : Row) (rest : List ℕ) → IsPlainRow row → next_record default_config st.StartRecord [] [] (line_of row ++ rest) ≡ Some (row, st.StartRecord, rest)
next_row [] rest h = absurd h
next_row (first ∷ []) rest h = absurd h
next_row (first ∷ second ∷ fields) rest h = rw (← line_written first second fields h) (read-write-many first second fields rest)

no_record : next_record default_config st.StartRecord [] [] [] ≡ None
unfolding next_record
no_record = refl

rows_read : (n : ℕ) (rows : List Row) → AllByRecursion IsPlainRow rows → length rows < n → records_from default_config n st.StartRecord (text_of_rows rows) ≡ rows
unfolding records_from
rows_read zero rows h more = absurd (omega arith)
rows_read (suc n) [] h more = rw no_record refl
rows_read (suc n) (row ∷ rows) h more =
    rw (next_row row (text_of_rows rows) h.0) (ap (λ (rest : List Row). row ∷ rest) (rows_read n rows h.1 (omega arith)))

behind_length : (fields : Row) → 1 ≤ length (fields_behind fields)
behind_length [] = omega arith
behind_length (field ∷ fields) = omega arith

line_length : (row : Row) → 1 ≤ length (line_of row)
line_length [] = omega arith
line_length (field ∷ fields) = omega (arith, length-append field (fields_behind fields), behind_length fields)

rows_length : (rows : List Row) → length rows ≤ length (text_of_rows rows)
rows_length [] = omega arith
rows_length (row ∷ rows) = omega (arith, length-append (line_of row) (text_of_rows rows), line_length row, rows_length rows)

-- a byte order mark begins with a byte that is not plain
no_mark : (b : ℕ) (text : List ℕ) → b < 128 → strip_bom (b ∷ text) ≡ b ∷ text
unfolding strip_bom
no_mark b [] h = refl
no_mark b (c ∷ []) h = refl
no_mark b (c ∷ d ∷ rest) h = let other : (b == 239) ≡ false = ne_eqb b 239 (λ same. omega arith) in rw other refl

plain_ascii : (text : List ℕ) → is_plain text ≡ true → IsAscii text
plain_ascii [] h = IsAscii-nil
plain_ascii (b ∷ text) h =
    let parts = and_parts (is_plain_byte b) (is_plain text) h in IsAscii-cons b text (plain_below b parts.0) (plain_ascii text parts.1)

behind_ascii : (fields : Row) → AllByRecursion (λ field. is_plain field ≡ true) fields → IsAscii (fields_behind fields)
behind_ascii [] h = IsAscii-cons 10 [] (omega arith) IsAscii-nil
behind_ascii (field ∷ fields) h =
    IsAscii-cons 44 (field ++ fields_behind fields) (omega arith) (IsAscii-append field (fields_behind fields) (plain_ascii field h.0) (behind_ascii fields h.1))

line_ascii : (row : Row) → IsPlainRow row → IsAscii (line_of row)
line_ascii [] h = absurd h
line_ascii (first ∷ []) h = absurd h
line_ascii (first ∷ second ∷ fields) h =
    IsAscii-append first (fields_behind (second ∷ fields)) (plain_ascii first h.0) (behind_ascii (second ∷ fields) h.1)

text_ascii : (rows : List Row) → AllByRecursion IsPlainRow rows → IsAscii (text_of_rows rows)
text_ascii [] h = IsAscii-nil
text_ascii (row ∷ rows) h = IsAscii-append (line_of row) (text_of_rows rows) (line_ascii row h.0) (text_ascii rows h.1)

mark_free : (text : List ℕ) → IsAscii text → strip_bom text ≡ text
unfolding strip_bom
mark_free [] h = refl
mark_free (b ∷ text) h = no_mark b text (h 0)

pub rows_back : (rows : List Row) → AllByRecursion IsPlainRow rows → rows_of (text_of_rows rows) ≡ rows
rows_back rows h =
    ap (λ text. records_from default_config (length text + 1) st.StartRecord text) (mark_free (text_of_rows rows) (text_ascii rows h))
    ∙ rows_read (length (text_of_rows rows) + 1) rows h (omega (arith, rows_length rows))

pub rows_utf8 : (rows : List Row) → AllByRecursion IsPlainRow rows → is_utf8 (text_of_rows rows) ≡ true
rows_utf8 rows h = is_utf8-from_IsUtf8 (text_of_rows rows) (IsUtf8-from_ascii (text_of_rows rows) (text_ascii rows h))
