-- What the answer to an event tells of the tables behind it.
--     as_taken, ..             the answers with which a call goes on, as it takes them
--     answered own r           the answer that is taken as r
--     Tells e a t              what the answer a to the event e tells of the tables t behind it
--     OnlySays e               the answer to such an event always says a reply
--     IsReply a                it says a reply
--     TellsDraft name r a t    a draft of this name is there, with the text and the revision that the answer has, which is r
--                              where a revision was named
--     TellsText a              it says a reply, or has a draft's text
--     TellsBook a              it says a reply, or has a book
--     TellsLooked number a t   the book of this number is there, and is the one that the answer has; or a kept order is
--     TellsPlaced a t          the order is placed, or a kept order is there
--     TellsKept a t            a kept order is there
use Rattle.std.specs.Prelude.{◌≡◌, ℕ, List, Option, None, Some, IfSome, Result, Ok, Err, true}
use Rattle.release.specs.Release.{Release}
use Rattle.desk_words.specs.declared.order_words.OrderWords.{OrderWords}
use Rattle.desk_words.specs.declared.reply.Reply.{Reply}
use Rattle.order_desk.specs.declared.answer.Answer.{Answer}
use Rattle.order_desk.specs.declared.answer.Answer.TheVariants.{Say, Draft, Book, Kept, Placed}
use Rattle.order_desk.specs.declared.draft.Draft.{Draft as KeptDraft}
use Rattle.order_desk.specs.declared.event.Event.{Event}
use Rattle.order_desk.specs.declared.event.Event.TheVariants as event
use Rattle.order_desk.specs.declared.event.Reading.TheVariants as reading
use Rattle.order_desk.specs.declared.kept_book.KeptBook.{KeptBook}
use Rattle.order_desk.specs.declared.order_key.OrderKey.{OrderKey}
use Rattle.order_desk.specs.Judging.{accepts}
use Rattle.order_desk.specs.Tables.{Tables, draft_at, book_at, order_at}
use Rattle.answering.specs.declared.asked.KeptOrder.{KeptOrder}
use Rattle.answering.specs.declared.asked.Looked.{Looked}
use Rattle.answering.specs.declared.asked.Looked.TheVariants as looking
use Rattle.answering.specs.declared.asked.Taken.{Taken}

-- ---- the answers of each event

abbrev pub as_taken : Taken → Answer
as_taken d = Draft d.text d.revision

abbrev pub as_looked : Looked → Answer
as_looked (looking.Free r) = Book r
as_looked (looking.Kept k) = Kept k.order k.book

abbrev pub as_placed : Option KeptOrder → Answer
as_placed None = Placed
as_placed (Some k) = Kept k.order k.book

abbrev pub as_kept : KeptOrder → Answer
as_kept k = Kept k.order k.book

abbrev pub answered : {A : Type 0} → (A → Answer) → Result A Reply → Answer
answered own (Ok a) = own a
answered own (Err said) = Say said

-- ---- what they tell

-- its book accepts the order
abbrev pub BookAccepts : KeptOrder → Type 0
BookAccepts k = accepts k.book.book k.order.day k.order.codes ≡ true

pub record IsDraftThere (t : Tables) (name text : List ℕ) (revision : ℕ) : Type 0 where
  pub draft : KeptDraft
  pub there : draft_at t.drafts name ≡ Some draft
  pub its_text : draft.text ≡ text
  pub its_revision : draft.revision ≡ revision

pub record IsBookThere (t : Tables) (number : ℕ) (r : Release) : Type 0 where
  pub book : KeptBook
  pub there : book_at t.books number ≡ Some book
  pub its_release : book.released ≡ r

pub record IsOrderThere (t : Tables) (order : OrderWords) (r : Release) : Type 0 where
  pub key : OrderKey
  pub there : order_at t.orders key ≡ Some order
  pub book : IsBookThere t order.book r

abbrev pub IsReply : Answer → Type 0
IsReply (Say reply) = Unit {0}
IsReply _ = ⊥

abbrev pub TellsText : Answer → Type 0
TellsText (Say reply) = Unit {0}
TellsText (Draft text revision) = Unit {0}
TellsText _ = ⊥

abbrev pub TellsBook : Answer → Type 0
TellsBook (Say reply) = Unit {0}
TellsBook (Book r) = Unit {0}
TellsBook _ = ⊥

abbrev pub TellsDraft : List ℕ → Option ℕ → Answer → Tables → Type 0
TellsDraft name named (Say reply) t = Unit {0}
TellsDraft name named (Draft text revision) t = IsDraftThere t name text revision × IfSome named (λ r. r ≡ revision)
TellsDraft name named _ t = ⊥

abbrev pub TellsLooked : ℕ → Answer → Tables → Type 0
TellsLooked number (Say reply) t = Unit {0}
TellsLooked number (Book r) t = IsBookThere t number r
TellsLooked number (Kept order r) t = IsOrderThere t order r
TellsLooked number _ t = ⊥

abbrev pub TellsPlaced : Answer → Tables → Type 0
TellsPlaced (Say reply) t = Unit {0}
TellsPlaced Placed t = Unit {0}
TellsPlaced (Kept order r) t = IsOrderThere t order r
TellsPlaced _ t = ⊥

abbrev pub TellsKept : Answer → Tables → Type 0
TellsKept (Say reply) t = Unit {0}
TellsKept (Kept order r) t = IsOrderThere t order r
TellsKept _ t = ⊥

-- every other event only says
abbrev pub Tells : Event → Answer → Tables → Type 0
Tells (event.Place caller number order) a t = TellsPlaced a t
Tells (event.Read (reading.Draft draft)) a t = TellsText a
Tells (event.Read (reading.Take caller draft revision)) a t = TellsDraft draft revision a t
Tells (event.Read (reading.Book number)) a t = TellsBook a
Tells (event.Read (reading.InForce number)) a t = TellsBook a
Tells (event.Read (reading.Look caller number order)) a t = TellsLooked order.book a t
Tells (event.Read (reading.Order caller number)) a t = TellsKept a t
Tells e a t = IsReply a

abbrev pub OnlySays : Event → Type 0
OnlySays e = (a : Answer) (t : Tables) → Tells e a t → IsReply a
