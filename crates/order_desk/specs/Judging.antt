-- Whether a book accepts an order.
--     accepts book day codes    the contents of a book
--     accepted_by book order    a kept book, where there is one
use Rattle.std.specs.Prelude.{Bool, false, Option, None, Some}
use Rattle.desk_words.specs.declared.order_words.OrderWords.{OrderWords}
use Rattle.order_desk.specs.declared.kept_book.KeptBook.{KeptBook}
pub use Rattle.release.specs.Accepting.{is_accepted}
unfoldable pub use Rattle.release.specs.Accepting.{accepts}

abbrev pub accepted_by : Option KeptBook → OrderWords → Bool
accepted_by None order = false
accepted_by (Some book) order = accepts book.released.book order.day order.codes
