-- The kinds of fault of a book's text, and a fault at a row.
use Rattle.std.specs.Prelude.{ℕ, Result, Ok, Err}
use Rattle.book_text.specs.declared.fault.BookFault.{BookFault}
use Rattle.book_text.specs.declared.fault.BookKind.{BookKind}
use Rattle.book_text.specs.declared.fault.BookKind.TheVariants.{TooLarge, NotUtf8, NoBookRecord, SecondBookRecord, UnknownKind, FieldCount, BadName, BadNumber, BadDays, Duplicate, UnknownName, BadRule, Limit}

-- the number that a program prints for a kind
abbrev pub kind_number : BookKind → ℕ
kind_number TooLarge = 1
kind_number NotUtf8 = 2
kind_number NoBookRecord = 3
kind_number SecondBookRecord = 4
kind_number UnknownKind = 5
kind_number FieldCount = 6
kind_number BadName = 7
kind_number BadNumber = 8
kind_number BadDays = 9
kind_number Duplicate = 10
kind_number UnknownName = 11
kind_number (BadRule fault) = 12
kind_number (Limit which) = 13

-- a fault at a row
abbrev pub at_row : {A : Type 0} → ℕ → Result A BookKind → Result A BookFault
at_row row (Ok value) = Ok value
at_row row (Err kind) = Err (record { row = row; kind = kind })
