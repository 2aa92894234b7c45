-- The body of a reply's response: a line, and what stands behind it.
--     text_of reply    the body
use Rattle.std.specs.Prelude.{ℕ, List, [], ◌++◌, codes}
use Rattle.pb_base.specs.Lines.{line, number_behind}
use Rattle.desk_words.specs.FaultText.{book_fault_text, order_fault_text, limit_fault_text}
use Rattle.desk_words.specs.declared.reply.Missing.{Missing}
use Rattle.desk_words.specs.declared.reply.Missing.TheVariants.{Draft, Book, Order}
use Rattle.desk_words.specs.declared.reply.FullOf.{FullOf}
use Rattle.desk_words.specs.declared.reply.FullOf.TheVariants.{Drafts, Revisions, Books, Orders, Calls}
use Rattle.desk_words.specs.declared.reply.Reply.{Reply}
use Rattle.desk_words.specs.declared.reply.Reply.TheVariants.{Kept, Given, Raw, Cert, OwnerIs, Report, BookIs, Placed, OrderIs, Withdrawn, NotOwner, NoSuch, Gone, Changed, NumberUsed, TextRefused, Found, Undecided, Limit, Refused, OrderFault, StoreFault, Full, Memory}

abbrev pub missing_line : Missing → List ℕ
missing_line Draft = line (codes "no such draft")
missing_line Book = line (codes "no such book")
missing_line Order = line (codes "no such order")

abbrev pub full_line : FullOf → List ℕ
full_line Drafts = line (codes "full drafts")
full_line Revisions = line (codes "full revisions")
full_line Books = line (codes "full books")
full_line Orders = line (codes "full orders")
full_line Calls = line (codes "full calls")

abbrev pub line_of : Reply → List ℕ
line_of (Kept draft revision) = line (codes "kept " ++ draft ++ number_behind revision)
line_of (Given draft to) = line (codes "given " ++ draft ++ codes " " ++ to)
line_of (Raw text) = []
line_of (Cert text) = []
line_of (OwnerIs owner revision) = line (codes "owner " ++ owner ++ codes " revision" ++ number_behind revision)
line_of (Report text) = []
line_of (BookIs number fresh) = line (codes "book" ++ number_behind number)
line_of (Placed fresh text) = []
line_of (OrderIs book day text) = line (codes "book" ++ number_behind book ++ codes " day" ++ number_behind day)
line_of (Withdrawn book) = line (codes "withdrawn" ++ number_behind book)
line_of (NotOwner owner) = line (codes "owner " ++ owner)
line_of (NoSuch missing) = missing_line missing
line_of (Gone book) = line (codes "withdrawn" ++ number_behind book)
line_of (Changed revision) = line (codes "changed" ++ number_behind revision)
line_of (NumberUsed book) = line (codes "number used" ++ number_behind book)
line_of (TextRefused fault) = book_fault_text fault
line_of (Found text) = line (codes "found")
line_of (Undecided text) = line (codes "undecided")
line_of (Limit fault) = limit_fault_text fault
line_of (Refused rule) = line (codes "refused " ++ rule)
line_of (OrderFault fault) = order_fault_text fault
line_of (StoreFault before after) = line (codes "store fault")
line_of (Full what) = full_line what
line_of Memory = line (codes "want of memory")

abbrev pub rest_of : Reply → List ℕ
rest_of (Raw text) = text
rest_of (Cert text) = text
rest_of (Report text) = text
rest_of (Placed fresh text) = text
rest_of (OrderIs book day text) = text
rest_of (Found text) = text
rest_of (Undecided text) = text
rest_of reply = []

abbrev pub text_of : Reply → List ℕ
text_of reply = line_of reply ++ rest_of reply
