-- What many steps come to.
--     Entry                   an event that was taken, its answer, and the state after it
--     IsLegal start history   each event fits the state to which the ones before it lead, and its answer is that of a step
--     Reaches old new         a legal history leads from the old state to the new one
--     Grows old new           what stays of the tables at every step
use Rattle.std.specs.Prelude.{◌≡◌, ℕ, ◌≤◌, true, List, Option, None, Some, IsSomeAnd}
use Rattle.desk_words.specs.declared.order_words.OrderWords.{OrderWords}
use Rattle.order_desk.specs.declared.answer.Answer.{Answer}
use Rattle.order_desk.specs.declared.draft.Draft.{Draft}
use Rattle.order_desk.specs.declared.event.Event.{Event}
use Rattle.order_desk.specs.declared.kept_book.KeptBook.{KeptBook}
use Rattle.order_desk.specs.declared.order_key.OrderKey.{OrderKey}
use Rattle.order_desk.specs.Fits.{Fits}
use Rattle.order_desk.specs.Step.{Step}
use Rattle.order_desk.specs.Tables.{Tables, State, draft_at, book_at, order_at}
use Rattle.turn_book.specs.History.{end_of, IsHistory}
use Rattle.turn_book.specs.declared.entry.Entry.{Entry}

abbrev pub IsLegal : State → List (Entry State Event Answer) → Type 0
IsLegal start history = IsHistory (λ state. Fits state.tables) Step start history

abbrev pub Reaches : State → State → Type 0
Reaches old new = (history : List (Entry State Event Answer)) × IsLegal old history × (end_of old history ≡ new)

-- what is there stays there, and what it becomes is tied by R
abbrev pub Stays : {A : Type 0} → (A → A → Type 0) → Option A → Option A → Type 0
Stays R None later = Unit {0}
Stays R (Some a) later = IsSomeAnd later (R a)

-- the revision never falls, and equal revisions have equal texts
pub record IsLaterDraft (old new : Draft) : Type 0 where
  pub revision : old.revision ≤ new.revision
  pub text : old.revision ≡ new.revision → old.text ≡ new.text

-- the book stays as it is, and once withdrawn stays withdrawn
pub record IsLaterBook (old new : KeptBook) : Type 0 where
  pub draft : new.draft ≡ old.draft
  pub revision : new.revision ≡ old.revision
  pub released : new.released ≡ old.released
  pub withdrawn : old.withdrawn ≡ true → new.withdrawn ≡ true

abbrev pub IsSameOrder : OrderWords → OrderWords → Type 0
IsSameOrder old new = new ≡ old

pub record Grows (old new : Tables) : Type 0 where
  pub drafts : (name : List ℕ) → Stays IsLaterDraft (draft_at old.drafts name) (draft_at new.drafts name)
  pub books : (number : ℕ) → Stays IsLaterBook (book_at old.books number) (book_at new.books number)
  pub orders : (key : OrderKey) → Stays IsSameOrder (order_at old.orders key) (order_at new.orders key)
