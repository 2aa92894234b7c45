-- What a desk and a service promise, on one page.
--     IsPromised e                 what is promised of each call that is answered, memory and store allowing
--     AreInTurn h exchanges new    one holder's, each beginning as the one before it ended
--     Headline Held before after   a desk was started from the rows; all steps of its holders are one legal history from there to
--                                  the rows that are left; Held says who made them
--     DeskHeadline before after    a desk's, by the holder of its one link; each call is answered as promised
--     ServiceHeadline service ..   a service's, by the holder of each port, who has its share of the steps; or no port gave a link
use Rattle.std.specs.Prelude.{◌≡◌, ◌⊎◌, ℕ, ◌≤◌, ◌/◌, List, [], ◌∷◌, Some, All, IfSome, length}
use Rattle.pb_outside.specs.Sink.{SinkTold}
use Rattle.pb_door.specs.DoorTold.{DoorTold, counts}
use Rattle.pb_door.specs.PortTold.{PortTold, new_ports}
use Rattle.command_words.specs.Service.{Service}
use Rattle.turn_book.specs.History.{AreAllBelow, end_of}
use Rattle.turn_book.specs.Places.{Rises, at_places}
use Rattle.turn_book.specs.Standing.{Opened}
use Rattle.desk_words.specs.declared.call.What.TheVariants.{Order}
use Rattle.desk_words.specs.declared.order_words.OrderWords.{OrderWords}
use Rattle.order_desk.specs.declared.kept_book.KeptBook.{KeptBook}
use Rattle.order_desk.specs.History.{Grows, IsLegal}
use Rattle.order_desk.specs.Rows.{rows_of}
use Rattle.order_desk.specs.Tables.{State, book_at}
use Rattle.answering.specs.Dealt.{IsReleasedAt, NamesReleased}
use Rattle.answering.specs.Hand.{Hand}
use Rattle.answering.specs.Headline.{PlacesOrder}
use Rattle.answering.specs.LaterHand.{IsLaterHand}
use Rattle.answering.specs.Seat.{steps_of}
use Rattle.session.specs.Dealing.{HasDealt}
use Rattle.session.specs.Responses.{IsResponse}
use Rattle.session.specs.Session.{told}
use Rattle.session.specs.declared.end.SessionEnd.{SessionEnd}
use Rattle.desk_run.specs.DeskRun as alone
use Rattle.desk_run.specs.DeskRun.{IsStarted}
use Rattle.desk_run.specs.Released.{IsReleasedRow}
use Rattle.desk_run.specs.declared.run.TheConstants.{MOST_STEPS}
use Rattle.serve_run.specs.ServeRun.{Log, all_of}
use Rattle.serve_run.specs.ServeRun as serving
use Rattle.serve_run.specs.Work.{ServesLinks}
use Rattle.commands.specs.DeskEnds.{desk_outside}
use Rattle.commands.specs.Exchanges.{Exchange, of_links, of_session}
use Rattle.commands.specs.Outside.{Outside}

pub record IsPromised (e : Exchange) : Type 0 where
  -- every book that is kept then can be released, and so can one that the reply names
  pub books : (number : ℕ) (b : KeptBook) → book_at e.after.state.tables.books number ≡ Some b
      → IsReleasedAt e.after.state.tables number
  pub named : NamesReleased e.said e.after.state.tables
  -- when the call's last event begins: a new order to a book in force is accepted exactly where it can be built, with the book's
  -- one complete list, and else refused by the first broken rule; an order that is repeated under its number is told the list of
  -- its own book, and another one under that number is refused, and neither changes anything
  pub order : (number : ℕ) (order : OrderWords) → e.call.what ≡ Order number order → 2 ≤ e.before.left
      → PlacesOrder e.before e.call.caller number order e.said e.after
  -- books that are released, and orders that are kept, stay
  pub stays : Grows e.before.state.tables e.after.state.tables
  -- the holder's own steps, the last of which led to what it has seen then
  pub later : IsLaterHand e.before e.after
  pub written : IsResponse e.message.head e.said e.text

abbrev pub AreInTurn : Hand → List Exchange → Hand → Type 0
AreInTurn h [] new = new ≡ h
AreInTurn h (e ∷ exchanges) new = (e.before ≡ h) × IsPromised e × AreInTurn e.after exchanges new

-- the one link of a desk, whose holder makes all steps; the sink stood in the middle when its session was over
pub record HasOneHolder (start last : State) (before after : Outside) : Type 0 where
  pub end : SessionEnd
  pub middle : SinkTold
  pub new : Hand
  pub dealt : HasDealt end (alone.hand_at start) (told before.reads.source before.writes.sink) (told after.reads.source middle) new
  pub in_turn : AreInTurn (alone.hand_at start) (of_session end _ _ _ new dealt) new
  pub reached : new.state ≡ last

-- the links of one port, one after the other: its holder's steps are those at its own rising places of the history, each from the
-- state to which all entries before it lead
pub record IsHolder (book : Opened State) (share : ℕ) (history : Log) (port : PortTold) (places : List ℕ) : Type 0 where
  pub ends : List SessionEnd
  pub new : Hand
  pub serves : ServesLinks ends (serving.hand_at book share) port.given port.ended new
  pub in_turn : AreInTurn (serving.hand_at book share) (of_links ends (serving.hand_at book share) port.given port.ended new serves) new
  pub made : new.made ≡ at_places (steps_of book.start history) places
  pub rises : Rises 0 (length history) places

abbrev pub AreHolders : Opened State → ℕ → Log → List PortTold → List (List ℕ) → Type 0
AreHolders book share history [] [] = Unit {0}
AreHolders book share history (port ∷ ports) (own ∷ places) =
    IsHolder book share history port own × AreHolders book share history ports places
AreHolders book share history ports places = ⊥

-- each entry of the history is a step of just one holder
pub record HasHolders (share : ℕ) (start : State) (history : Log) (ports : List PortTold) : Type 0 where
  pub book : Opened State
  pub opened : book.start ≡ start
  pub places : List (List ℕ)
  pub holders : AreHolders book share history ports places
  pub whole : AreAllBelow (length history) (all_of places)

-- nothing was served, and nothing done: the door gave no ports, and is as it was but for its faults; or they came back as they were
-- given, none of which had given a link
pub record WasUnserved (service : Service) (start last : State) (history : Log) (before after : DoorTold) : Type 0 where
  pub ports : (after ≡ counts after.faults before) ⊎ (after.back ≡ new_ports service.links service.workers)
  pub idle : history ≡ []
  pub unchanged : last ≡ start

pub record Headline (Held : State → State → Log → Type 0) (before after : Outside) : Type 0 where
  pub start : State
  pub started : IsStarted (desk_outside before before.writes.sink) start
  pub history : Log
  pub legal : IsLegal start history
  pub last : State
  pub reached : end_of start history ≡ last
  -- every book that is left can be released, and so can each of the rows, where these are told
  pub books : (number : ℕ) (b : KeptBook) → book_at last.tables.books number ≡ Some b → IsReleasedAt last.tables number
  pub rows : IfSome after.keeper.rows (λ rows. rows ≡ rows_of last.tables)
  pub released : IfSome after.keeper.rows (λ rows. All IsReleasedRow rows.books)
  pub held : Held start last history

abbrev pub DeskHeadline : Outside → Outside → Type 0
DeskHeadline before after = Headline (λ start last history. HasOneHolder start last before after) before after

-- the workers share the steps of the run
abbrev pub share_of_steps : Service → ℕ
share_of_steps service = MOST_STEPS / service.workers

abbrev pub IsHeldBy : Service → Outside → Outside → State → State → Log → Type 0
IsHeldBy service before after start last history =
    HasHolders (share_of_steps service) start history after.door.told.back ⊎ WasUnserved service start last history before.door.told after.door.told

abbrev pub ServiceHeadline : Service → Outside → Outside → Type 0
ServiceHeadline service before after = Headline (IsHeldBy service before after) before after
