-- Two callers at one desk: what each of them sees, what is told, and what the definitions refuse.
use Rattle.std.proofs.Common.{◌≡◌, ℕ, true, false, List, [], ◌∷◌, Option, refl, ap}
use Rattle.std.specs.Prelude.{codes}
use Rattle.std.specs.Fmt.{digits}
use Rattle.pb_outside.specs.Faults.{Faults}
use Rattle.release.specs.Release.{Release}
use Rattle.desk_words.specs.declared.order_words.OrderWords.{OrderWords}
use Rattle.desk_words.specs.declared.reply.FullOf.TheVariants as full
use Rattle.desk_words.specs.declared.reply.Reply.TheVariants as reply
use Rattle.turn_book.specs.History.{entry}
use Rattle.turn_book.specs.declared.entry.Entry.{Entry}
use Rattle.order_desk.specs.Effect.{place, to_place, book_of, same_order, list_orders}
use Rattle.order_desk.specs.Listing.{orders_text}
use Rattle.order_desk.specs.Tables.{Tables, State, key_of}
use Rattle.order_desk.specs.declared.answer.Answer.{Answer}
use Rattle.order_desk.specs.declared.answer.Answer.TheVariants as answer
use Rattle.order_desk.specs.declared.event.Event.{Event}
use Rattle.order_desk.specs.declared.event.Event.TheVariants as event
use Rattle.order_desk.specs.declared.event.Reading.TheVariants as reading
use Rattle.order_desk.specs.declared.kept_book.KeptBook.{KeptBook}
use Rattle.order_desk.specs.declared.order_key.OrderKey.{OrderKey}
use Rattle.caller_laws.specs.Callers.{IsToldAlone, answers_to, changes, concerns, dealings, events_of, is_settled, own_orders, seen_by}

abbrev one : List ℕ
one = codes "D1"

abbrev other : List ℕ
other = codes "D2"

abbrev third : List ℕ
third = codes "D3"

abbrev an_order : OrderWords
an_order = record { book = 1; day = 1; codes = codes "M1" ∷ [] }

abbrev another : OrderWords
another = record { book = 1; day = 2; codes = codes "M2" ∷ [] }

-- both callers gave the number 1, and the second one 2 as well
abbrev both_orders : List (OrderKey × OrderWords)
both_orders = (key_of one 1, an_order) ∷ (key_of other 1, another) ∷ (key_of other 2, an_order) ∷ []

abbrev of_one : List (OrderKey × OrderWords)
of_one = (key_of one 1, an_order) ∷ []

abbrev none : List (OrderKey × OrderWords)
none = []

sees_one : own_orders one both_orders ≡ of_one
sees_one = refl

sees_other : own_orders other both_orders ≡ (key_of other 1, another) ∷ (key_of other 2, an_order) ∷ []
sees_other = refl

sees_none : own_orders third both_orders ≡ none
sees_none = refl

-- a draft concerns everyone, an order and a list just who asks
draft_concerns : concerns one (event.PutDraft other (codes "T") []) ≡ true
draft_concerns = refl

order_concerns : concerns one (event.Place one 2 another) ≡ true
order_concerns = refl

other_concerns_not : concerns one (event.Place other 3 another) ≡ false
other_concerns_not = refl

list_concerns_not : concerns one (event.Read (reading.Orders other 0)) ≡ false
list_concerns_not = refl

-- that there is no room for orders settles nothing; that there is none for drafts does
orders_unsettled : is_settled (answer.Say (reply.Full full.Orders)) ≡ false
orders_unsettled = refl

drafts_settled : is_settled (answer.Say (reply.Full full.Drafts)) ≡ true
drafts_settled = refl

module _ (r : Release) (faults : Faults) (calls : Option ℕ) where
  abbrev the_book : KeptBook
  the_book = record { draft = codes "T"; revision = 1; released = r; withdrawn = false }

  abbrev both : Tables
  both = record { drafts = []; books = the_book ∷ []; orders = both_orders }

  -- a list, an order of the other caller, an own one, and an own one for which there is no room
  abbrev asked : State → List (Entry State Event Answer)
  asked s =
      entry (event.Read (reading.Orders one 0)) (answer.Say (reply.Report [])) s ∷ entry (event.Place other 3 another) answer.Placed s
      ∷ entry (event.Place one 2 another) answer.Placed s ∷ entry (event.Place one 3 another) (answer.Say (reply.Full full.Orders)) s ∷ []

  dealt : (s : State) → events_of (dealings one (asked s)) ≡ event.Read (reading.Orders one 0) ∷ event.Place one 2 another ∷ []
  dealt s = refl

  changed : (s : State) → events_of (changes one (asked s)) ≡ event.Place one 2 another ∷ []
  changed s = refl

  -- the number 2 is free for the one caller, whose list has no order of the other
  told_one : answers_to (seen_by one both) (event.Place one 2 another ∷ event.Read (reading.Orders one 0) ∷ [])
      ≡ answer.Placed ∷ answer.Say (reply.Report (codes "order 1 book 1 day 1\norder 2 book 1 day 2\nend\n")) ∷ []
  unfolding place to_place book_of list_orders orders_text digits
  told_one = refl

  -- and taken for the other
  told_other : answers_to (seen_by other both) (event.Place other 2 another ∷ []) ≡ answer.Say (reply.NumberUsed 1) ∷ []
  unfolding place same_order
  told_other = refl

  -- a desk at which all callers share their numbers is refused
  numbers_apart : (new : State)
      → IsToldAlone one (record { tables = both; faults = faults; calls = calls }) (entry (event.Place one 2 another) (answer.Say (reply.NumberUsed 1)) new ∷ []) → ⊥
  unfolding place to_place book_of
  numbers_apart new is = let told : answer.Say (reply.NumberUsed 1) ∷ [] ≡ answer.Placed ∷ [] = is.told in cc

  -- and so is one that lists the order of another caller
  lists_apart : (new : State)
      → IsToldAlone third (record { tables = both; faults = faults; calls = calls })
      (entry (event.Read (reading.Orders third 0)) (answer.Say (reply.Report (codes "order 1 book 1 day 1\nend\n"))) new ∷ []) → ⊥
  unfolding list_orders orders_text
  lists_apart new is =
      let told : answer.Say (reply.Report (codes "order 1 book 1 day 1\nend\n")) ∷ [] ≡ answer.Say (reply.Report (codes "end\n")) ∷ [] = is.told in
      cc

  -- callers who have kept other orders see other tables
  sees_own_alone : seen_by one both ≡ seen_by one (record both { orders = none }) → ⊥
  sees_own_alone same = let orders : of_one ≡ none = ap (λ (t : Tables). t.orders) same in cc
