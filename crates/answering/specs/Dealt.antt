-- What each call comes to, in the words of the trade.
--     IsReleasedAt t number      the book of this number is there, and it can be released
--     NamesReleased reply t      where a reply tells a draft's book, it is such a one
--     IsDealt call h said new    the call was answered so by one who had seen valid tables; the orders are those of Headline, and
--                                the books that are released and the orders that are kept stay
use Rattle.std.specs.Prelude.{◌≡◌, ℕ, ◌≤◌, Ok, Some}
use Rattle.book_model.specs.Sound.{IsReleasable}
use Rattle.book_text.specs.BookText.{book_of}
use Rattle.desk_words.specs.declared.call.Call.{Call}
use Rattle.desk_words.specs.declared.call.What.TheVariants.{Order}
use Rattle.desk_words.specs.declared.order_words.OrderWords.{OrderWords}
use Rattle.desk_words.specs.declared.reply.Reply.{Reply}
use Rattle.desk_words.specs.declared.reply.Reply.TheVariants.{BookIs}
use Rattle.order_desk.specs.declared.kept_book.KeptBook.{KeptBook}
use Rattle.order_desk.specs.History.{Grows}
use Rattle.order_desk.specs.Tables.{Tables, book_at}
use Rattle.order_desk.specs.Valid.{IsValid}
use Rattle.answering.specs.Hand.{Hand}
use Rattle.answering.specs.Headline.{PlacesOrder}
use Rattle.answering.specs.LaterHand.{IsLaterHand}

pub record IsReleasedAt (t : Tables) (number : ℕ) : Type 0 where
  pub book : KeptBook
  pub there : book_at t.books number ≡ Some book
  pub reads : book_of book.released.text ≡ Ok book.released.book
  pub releasable : IsReleasable book.released.book

abbrev pub NamesReleased : Reply → Tables → Type 0
NamesReleased (BookIs number fresh) t = IsReleasedAt t number
NamesReleased _ t = Unit {0}

pub record IsDealt (call : Call) (h : Hand) (said : Reply) (new : Hand) : Type 0 where
  pub valid : IsValid new.state.tables
  pub later : IsLaterHand h new
  pub grows : Grows h.state.tables new.state.tables
  pub order : (number : ℕ) (order : OrderWords) → call.what ≡ Order number order → 2 ≤ h.left
      → PlacesOrder h call.caller number order said new
  pub book : NamesReleased said new.state.tables
