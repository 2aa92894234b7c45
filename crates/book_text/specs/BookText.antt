-- What the text of a book reads as: the book, or its first fault.
--     book_of text
-- The text as a whole is tested first: its size, and that it is UTF-8. Then its rows are gone over twice: the first pass looks at
-- each row by itself and at its name, the second at what its names and its rule mean. The second begins where the first found
-- no fault.
use Rattle.std.specs.Prelude.{ℕ, List, [], ◌∷◌, length, Result, Ok, Err, not, nat_lt, if◌then◌else◌}
use Rattle.std.specs.Str.{is_utf8}
use Rattle.book_model.specs.Contents.{Contents}
use Rattle.book_text.specs.Rows.{Row, rows_of}
use Rattle.pb_base.specs.Results.{and_then}
use Rattle.pb_base.specs.declared.limits.TheConstants.{MOST_TEXT_BYTES}
use Rattle.book_text.specs.Fault.{at_row}
use Rattle.book_text.specs.Entry.{heading_of}
use Rattle.book_text.specs.FirstPass.{first_pass}
use Rattle.book_text.specs.SecondPass.{second_pass}
use Rattle.book_text.specs.Records.{book_with}
use Rattle.book_text.specs.declared.entry.Heading.{Heading}
use Rattle.book_text.specs.declared.fault.BookFault.{BookFault}
use Rattle.book_text.specs.declared.fault.BookKind.TheVariants.{TooLarge, NotUtf8, NoBookRecord}

-- the book of a heading and the rows behind it
abbrev pub book_behind : Heading → List Row → Result Contents BookFault
book_behind heading rows =
    and_then (first_pass heading rows) (λ names.
    and_then (second_pass heading names rows) (λ records.
    Ok (book_with heading names records)))

abbrev pub book_of_rows : List Row → Result Contents BookFault
book_of_rows [] = at_row 1 (Err NoBookRecord)
book_of_rows (row ∷ rows) = and_then (at_row 1 (heading_of row)) (λ heading. book_behind heading rows)

-- a fault of the text as a whole is at row 0
unfoldable pub book_of : List ℕ → Result Contents BookFault
book_of text =
    if nat_lt MOST_TEXT_BYTES (length text) then at_row 0 (Err TooLarge)
    else if not (is_utf8 text) then at_row 0 (Err NotUtf8)
    else book_of_rows (rows_of text)
