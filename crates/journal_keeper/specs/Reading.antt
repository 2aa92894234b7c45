-- What a record that stands in the bytes of a file sets.
use Rattle.journal_keeper.specs.declared.record.Record.{Record}
use Rattle.journal_keeper.specs.declared.record.Record.TheVariants as read
use Rattle.journal_keeper.specs.Record.{Entry, Draft, Book, Order, Withdrawn}

abbrev pub entry_of : Record → Entry
entry_of (read.Draft name owner revision text) = Draft (record { name = name.now; owner = owner.now; revision = revision; text = text.now })
entry_of (read.Book number draft revision text cert) = Book (record { number = number; draft = draft.now; revision = revision; text = text.now; cert = cert.now })
entry_of (read.Order caller number book day codes) = Order (record { caller = caller.now; number = number; book = book; day = day; codes = codes.now })
entry_of (read.Withdrawn number) = Withdrawn number
