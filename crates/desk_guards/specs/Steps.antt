-- What a step of a desk comes to.
--     IsOneCallAtMost before after    one call of the keeper, or none
--     IsOfItsBook t order book        this is the book that the order names
use Rattle.std.specs.Prelude.{◌≡◌, ◌⊎◌, ℕ, Option, Some}
use Rattle.std.specs.Option.{option_map}
use Rattle.pb_outside.specs.Faults.{raised}
use Rattle.release.specs.Release.{Release}
use Rattle.desk_words.specs.declared.order_words.OrderWords.{OrderWords}
use Rattle.order_desk.specs.declared.kept_book.KeptBook.{KeptBook}
use Rattle.order_desk.specs.Tables.{Tables, book_at}

abbrev pub IsOneCallAtMost : Option ℕ → Option ℕ → Type 0
IsOneCallAtMost before after = (after ≡ before) ⊎ (after ≡ option_map raised before)

pub record IsOfItsBook (t : Tables) (order : OrderWords) (book : Release) : Type 0 where
  pub kept : KeptBook
  pub there : book_at t.books order.book ≡ Some kept
  pub same : book ≡ kept.released
