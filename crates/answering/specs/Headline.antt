-- What an order comes to, in the words of the trade. A new one is accepted exactly where it can be built, memory and store
-- allowing, and the list that is printed is then its book's one complete list. One that is repeated under its number is told the
-- list of its own book, and another one under that number is refused; neither changes anything.
--     IsNewOrder t caller number order b    a well-formed order to the book b in force, under a free number, with room for it
--     IsRepeated t caller number order b    the same order is kept under the number, and b is its book
--     IsUsedFor t caller number order kept  another order is kept under the number
--     list_text b day names                 the printed parts list of the supplemented codes
--     IsAccepted, IsRefused                 the order is kept and printed, or refused by the first rule that is broken
--     WantsMemory, IsUnwritten              there was no memory, or the store failed: nothing changes but the count of faults
--     AcceptsExactly                        which of them a new order comes to
--     IsToldAgain, IsNumberUsed             what a repeated order comes to, and another one under its number
--     OrderComes                            all of these, by what is kept
--     LastStep                              the last event of the order's call, and the state at which it begins
--     PlacesOrder                           what the call of an order comes to
use Rattle.std.specs.Prelude.{◌≡◌, ◌≢◌, ◌⊎◌, ℕ, ◌<◌, true, false, List, None, Some, length}
use Rattle.pb_outside.specs.Faults.{Fails}
use Rattle.book_model.specs.Contents.{Contents}
use Rattle.book_model.specs.Parts.{parts}
use Rattle.parts_usage.specs.Broken.{first_broken_of}
use Rattle.order_text.specs.OutcomeText.{accepted_text}
use Rattle.book_model.specs.Ids.{construct_id}
use Rattle.release.specs.Orders.{HasOneList, IsWellFormed, can_be_built, supplemented}
use Rattle.desk_words.specs.declared.order_words.OrderWords.{OrderWords}
use Rattle.desk_words.specs.declared.reply.Reply.{Reply}
use Rattle.desk_words.specs.declared.reply.Reply.TheVariants as reply
use Rattle.order_desk.specs.declared.answer.Answer.{Answer}
use Rattle.order_desk.specs.declared.event.Event.{Event}
use Rattle.order_desk.specs.declared.event.Event.TheVariants.{Place, Read}
use Rattle.order_desk.specs.declared.event.Reading.TheVariants.{Look}
use Rattle.order_desk.specs.declared.kept_book.KeptBook.{KeptBook}
use Rattle.order_desk.specs.declared.limits.TheConstants.{MOST_ORDERS}
use Rattle.order_desk.specs.Tables.{Tables, State, book_at, key_of, order_at, with_order}
use Rattle.answering.specs.Hand.{Hand, Stepped}
use Rattle.answering.specs.LaterHand.{IsLaterHand}

pub record IsNewOrder (t : Tables) (caller : List ℕ) (number : ℕ) (order : OrderWords) (b : KeptBook) : Type 0 where
  pub there : book_at t.books order.book ≡ Some b
  pub in_force : b.withdrawn ≡ false
  pub free : order_at t.orders (key_of caller number) ≡ None
  pub room : length t.orders < MOST_ORDERS
  pub formed : IsWellFormed b.released.book order.day order.codes

pub record IsRepeated (t : Tables) (caller : List ℕ) (number : ℕ) (order : OrderWords) (b : KeptBook) : Type 0 where
  pub kept : order_at t.orders (key_of caller number) ≡ Some order
  pub there : book_at t.books order.book ≡ Some b

pub record IsUsedFor (t : Tables) (caller : List ℕ) (number : ℕ) (order kept : OrderWords) : Type 0 where
  pub there : order_at t.orders (key_of caller number) ≡ Some kept
  pub other : kept ≢ order

abbrev pub list_text : Contents → ℕ → List (List ℕ) → List ℕ
list_text b day names = let x = supplemented b day names in accepted_text b x (parts b day x)

pub record WantsMemory (old : State) (said : Reply) (new : State) : Type 0 where
  pub told : said ≡ reply.Memory
  pub unchanged : new.tables ≡ old.tables

pub record IsUnwritten (old : State) (said : Reply) (new : State) : Type 0 where
  pub told : said ≡ reply.StoreFault old.faults.count new.faults.count
  pub fails : Fails old.faults new.faults
  pub unchanged : new.tables ≡ old.tables

module _ (old : State) (caller : List ℕ) (number : ℕ) (order : OrderWords) (b : Contents) (said : Reply) (new : State) where
  pub record IsAccepted : Type 0 where
    pub printed : said ≡ reply.Placed true (list_text b order.day order.codes)
    pub kept : new.tables ≡ with_order old.tables (key_of caller number) order
    pub count : new.faults.count ≡ old.faults.count

  pub record IsRefused : Type 0 where
    pub rule : ℕ
    pub first : first_broken_of b order.day (supplemented b order.day order.codes) ≡ Some rule
    pub told : said ≡ reply.Refused (construct_id b rule)
    pub unchanged : new ≡ old

  pub record AcceptsExactly : Type 0 where
    pub built : can_be_built b order.day order.codes ≡ true → IsAccepted ⊎ (WantsMemory old said new ⊎ IsUnwritten old said new)
    pub unbuilt : can_be_built b order.day order.codes ≡ false → IsRefused ⊎ WantsMemory old said new
    pub one_list : can_be_built b order.day order.codes ≡ true
        → HasOneList b order.day (supplemented b order.day order.codes)

-- the printed list of a kept order, or want of memory
abbrev pub IsKeptList : Contents → OrderWords → Reply → Type 0
IsKeptList b order said = (said ≡ reply.Placed false (list_text b order.day order.codes)) ⊎ (said ≡ reply.Memory)

pub record IsToldAgain (old : State) (order : OrderWords) (b : Contents) (said : Reply) (new : State) : Type 0 where
  pub told : IsKeptList b order said
  pub unchanged : new ≡ old

-- the reply names the book of the order that is kept
pub record IsNumberUsed (old : State) (kept : OrderWords) (said : Reply) (new : State) : Type 0 where
  pub told : (said ≡ reply.NumberUsed kept.book) ⊎ (said ≡ reply.Memory)
  pub unchanged : new ≡ old

-- old is the state at which the last event of the call begins
pub record OrderComes (old : State) (caller : List ℕ) (number : ℕ) (order : OrderWords) (said : Reply) (new : State) : Type 0 where
  pub fresh : (b : KeptBook) → IsNewOrder old.tables caller number order b
      → AcceptsExactly old caller number order b.released.book said new
  pub repeated : (b : KeptBook) → IsRepeated old.tables caller number order b → IsToldAgain old order b.released.book said new
  pub used : (kept : OrderWords) → IsUsedFor old.tables caller number order kept → IsNumberUsed old kept said new

-- who is alone finds the desk at that event as it was when the call began
pub record LastStep (h : Hand) (caller : List ℕ) (number : ℕ) (order : OrderWords) (new : Hand) : Type 0 where
  pub between : Hand
  pub event : Event
  pub answer : Answer
  pub its_event : (event ≡ Read (Look caller number order)) ⊎ (event ≡ Place caller number order)
  pub before : IsLaterHand h between
  pub step : Stepped between event answer new
  pub at_once : h.book ≡ None → step.first ≡ h.state

abbrev pub PlacesOrder : Hand → List ℕ → ℕ → OrderWords → Reply → Hand → Type 0
PlacesOrder h caller number order said new =
    ((said ≡ reply.Memory) × (new ≡ h))
    ⊎ ((last : LastStep h caller number order new) × OrderComes last.step.first caller number order said new.state)
