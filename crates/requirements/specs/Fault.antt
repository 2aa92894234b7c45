-- The kinds of fault of a text of requirements, and a fault at a row.
--     kind_number kind      the number that a program prints for a kind
--     as_in_books answer    what is answered as in a book's text
--     at_row row answer     a fault at a row
use Rattle.std.specs.Prelude.{ℕ, Result, Ok, Err}
use Rattle.book_text.specs.Fault.{kind_number as book_kind_number}
use Rattle.book_text.specs.declared.fault.BookKind.{BookKind}
use Rattle.requirements.specs.declared.fault.RequirementFault.{RequirementFault}
use Rattle.requirements.specs.declared.fault.RequirementKind.{RequirementKind}
use Rattle.requirements.specs.declared.fault.RequirementKind.TheVariants.{AsInBooks, TooMany}

-- the numbers are those of books, and what is one too many has that of limits
abbrev pub kind_number : RequirementKind → ℕ
kind_number (AsInBooks kind) = book_kind_number kind
kind_number TooMany = 13

abbrev pub as_in_books : {A : Type 0} → Result A BookKind → Result A RequirementKind
as_in_books (Ok value) = Ok value
as_in_books (Err kind) = Err (AsInBooks kind)

abbrev pub at_row : {A : Type 0} → ℕ → Result A RequirementKind → Result A RequirementFault
at_row row (Ok value) = Ok value
at_row row (Err kind) = Err (record { row = row; kind = kind })
