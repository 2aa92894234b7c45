-- What of a desk a caller's answers depend on, and what the desk would answer that keeps no more.
--     seen_by caller t            the drafts, the books, and the caller's own orders
--     seen_effect caller u        an effect, with the tables that it keeps as the caller sees them
--     concerns caller e           the event is about drafts or books, or about the caller's own orders
--     is_settled a                the answer is neither want of memory, nor a fault of the store, nor that there is no room for
--                                 one more order. These three change no tables
--     dealings caller history     the entries that concern the caller and were settled
--     changes caller history      those of them that don't just read
--     answers_to t es             what a desk with these tables answers to the events, memory and store allowing
--     tables_after t es           and what it then keeps
--     IsToldAlone                 of the dealings the caller is told what a desk with that caller's orders alone answers to them
--     IsSeenAlone                 what the caller sees is what that desk keeps after the changes
--     BeginAlike                  two legal histories, at whose beginnings the caller sees the same
--     AreToldAlike                they tell the caller the same, and leave the same to see
--     IsAnsweredAlike             two desks settle an event with one answer, and then the caller sees the same at both
use Rattle.std.specs.Prelude.{◌≡◌, ℕ, Bool, true, false, ◌&&◌, not, List, [], ◌∷◌, Option, None, Some, map}
use Rattle.std.specs.List.{filter}
use Rattle.std.specs.Option.{option_map_or}
use Rattle.pb_base.specs.Names.{same_name}
use Rattle.desk_words.specs.declared.order_words.OrderWords.{OrderWords}
use Rattle.desk_words.specs.declared.reply.FullOf.{FullOf}
use Rattle.desk_words.specs.declared.reply.FullOf.TheVariants as full
use Rattle.desk_words.specs.declared.reply.Reply.{Reply}
use Rattle.desk_words.specs.declared.reply.Reply.TheVariants as reply
use Rattle.turn_book.specs.History.{end_of}
use Rattle.turn_book.specs.declared.entry.Entry.{Entry}
use Rattle.order_desk.specs.Effect.{Effect, says, shows, keeps, effect}
use Rattle.order_desk.specs.History.{IsLegal}
use Rattle.order_desk.specs.Step.{Step}
use Rattle.order_desk.specs.Tables.{Tables, State}
use Rattle.order_desk.specs.Valid.{IsValid}
use Rattle.order_desk.specs.declared.answer.Answer.{Answer}
use Rattle.order_desk.specs.declared.answer.Answer.TheVariants as answer
use Rattle.order_desk.specs.declared.event.Event.{Event}
use Rattle.order_desk.specs.declared.event.Event.TheVariants as event
use Rattle.order_desk.specs.declared.event.Reading.TheVariants as reading
use Rattle.order_desk.specs.declared.order_key.OrderKey.{OrderKey}

-- ---- what a caller sees

abbrev pub is_own : List ℕ → OrderKey × OrderWords → Bool
is_own caller e = same_name e.0.caller caller

abbrev pub own_orders : List ℕ → List (OrderKey × OrderWords) → List (OrderKey × OrderWords)
own_orders caller orders = filter (is_own caller) orders

abbrev pub seen_by : List ℕ → Tables → Tables
seen_by caller t = record t { orders = own_orders caller t.orders }

abbrev pub seen_effect : List ℕ → Effect → Effect
seen_effect caller (says due) = says due
seen_effect caller (shows due) = shows due
seen_effect caller (keeps due tables) = keeps due (seen_by caller tables)

-- ---- a caller's dealings

-- whose orders the event is about
abbrev pub orders_of : Event → Option (List ℕ)
orders_of (event.Place caller number order) = Some caller
orders_of (event.Read (reading.Look caller number order)) = Some caller
orders_of (event.Read (reading.Order caller number)) = Some caller
orders_of (event.Read (reading.Orders caller number)) = Some caller
orders_of other = None

abbrev pub concerns : List ℕ → Event → Bool
concerns caller e = option_map_or (λ whose. same_name whose caller) (orders_of e) true

abbrev pub is_for_orders : FullOf → Bool
is_for_orders full.Orders = true
is_for_orders other = false

abbrev pub is_put_off : Reply → Bool
is_put_off reply.Memory = true
is_put_off (reply.StoreFault before after) = true
is_put_off (reply.Full of) = is_for_orders of
is_put_off other = false

abbrev pub is_settled : Answer → Bool
is_settled (answer.Say said) = not (is_put_off said)
is_settled other = true

abbrev pub is_dealing : List ℕ → Entry State Event Answer → Bool
is_dealing caller e = concerns caller e.call && is_settled e.reply

abbrev pub dealings : List ℕ → List (Entry State Event Answer) → List (Entry State Event Answer)
dealings caller history = filter (is_dealing caller) history

abbrev pub only_reads : Event → Bool
only_reads (event.Read asked) = true
only_reads other = false

abbrev pub changes : List ℕ → List (Entry State Event Answer) → List (Entry State Event Answer)
changes caller history = filter (λ e. not (only_reads e.call) && is_dealing caller e) history

abbrev pub events_of : List (Entry State Event Answer) → List Event
events_of entries = map (λ e. e.call) entries

abbrev pub answers_of : List (Entry State Event Answer) → List Answer
answers_of entries = map (λ e. e.reply) entries

-- ---- a desk that is asked some events

-- memory and store allowing
abbrev pub answer_due : Effect → Answer
answer_due (says due) = due
answer_due (shows due) = due
answer_due (keeps due tables) = due

abbrev pub tables_due : Effect → Tables → Tables
tables_due (says due) t = t
tables_due (shows due) t = t
tables_due (keeps due tables) t = tables

abbrev pub answers_to : Tables → List Event → List Answer
answers_to t [] = []
answers_to t (e ∷ es) = answer_due (effect t e) ∷ answers_to (tables_due (effect t e) t) es

abbrev pub tables_after : Tables → List Event → Tables
tables_after t [] = t
tables_after t (e ∷ es) = tables_after (tables_due (effect t e) t) es

-- ---- what the caller is told

module _ (caller : List ℕ) where
  pub record IsToldAlone (start : State) (history : List (Entry State Event Answer)) : Type 0 where
    pub told : answers_of (dealings caller history)
        ≡ answers_to (seen_by caller start.tables) (events_of (dealings caller history))
    pub seen : seen_by caller (end_of start history).tables
        ≡ tables_after (seen_by caller start.tables) (events_of (dealings caller history))

  abbrev pub IsSeenAlone : State → List (Entry State Event Answer) → Type 0
  IsSeenAlone start history =
      seen_by caller (end_of start history).tables
      ≡ tables_after (seen_by caller start.tables) (events_of (changes caller history))

  module _ (one other : State) where
    pub record BeginAlike (first second : List (Entry State Event Answer)) : Type 0 where
      pub valid : IsValid one.tables
      pub other_valid : IsValid other.tables
      pub legal : IsLegal one first
      pub other_legal : IsLegal other second
      pub seen : seen_by caller one.tables ≡ seen_by caller other.tables

    pub record AreToldAlike (first second : List (Entry State Event Answer)) : Type 0 where
      pub told : answers_of (dealings caller first) ≡ answers_of (dealings caller second)
      pub seen : seen_by caller (end_of one first).tables ≡ seen_by caller (end_of other second).tables

    abbrev pub IsAnsweredAlike : Event → Type 0
    IsAnsweredAlike event =
        (given told : Answer) (one_after other_after : State) → Step one event given one_after → Step other event told other_after
        → is_settled given ≡ true → is_settled told ≡ true
        → (given ≡ told) × (seen_by caller one_after.tables ≡ seen_by caller other_after.tables)
