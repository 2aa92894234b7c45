-- The first pass: each row by itself, and its name beside the names before it.
use Rattle.std.specs.Prelude.{List, Result}
use Rattle.book_text.specs.Rows.{Row}
use Rattle.pb_base.specs.Results.{and_then}
use Rattle.book_text.specs.Entry.{entry_of}
use Rattle.book_text.specs.Names.{no_names, entered}
use Rattle.book_text.specs.Pass.{pass}
use Rattle.book_text.specs.declared.entry.Heading.{Heading}
use Rattle.book_text.specs.declared.names.Names.{Names}
use Rattle.book_text.specs.declared.fault.BookFault.{BookFault}
use Rattle.book_text.specs.declared.fault.BookKind.{BookKind}

-- the names with that of a row
abbrev pub entered_row : Heading → Names → Row → Result Names BookKind
entered_row heading names row = and_then (entry_of heading row) (λ entry. entered names entry)

-- the names of the rows behind the heading, which is row 1
abbrev pub first_pass : Heading → List Row → Result Names BookFault
first_pass heading rows = pass (entered_row heading) 2 no_names rows
