-- A holder of the desk in turn with others: it makes its steps with the calls of a pass.
--     Sitting       the turn book, and the pass
--     steps_of      the steps of a history
--     hand_of s     what such a holder knows and may do
--     IsSeated s    the pass is of this book, it has seen a legal history that leads to valid tables, and its own places are
--                   places of that history, and rise
use Rattle.std.specs.Prelude.{◌≡◌, List, [], ◌∷◌, Option, None, Some, length}
use Rattle.order_desk.specs.declared.answer.Answer.{Answer}
use Rattle.order_desk.specs.declared.event.Event.{Event}
use Rattle.order_desk.specs.History.{IsLegal}
use Rattle.order_desk.specs.Tables.{State}
use Rattle.order_desk.specs.Valid.{IsValid}
use Rattle.turn_book.specs.History.{end_of}
use Rattle.turn_book.specs.Places.{Rises, at_places}
use Rattle.turn_book.specs.Standing.{Opened, Standing}
use Rattle.turn_book.specs.declared.entry.Entry.{Entry}
use Rattle.answering.specs.Hand.{Hand, Made}

pub record Sitting : Type 0 where
  pub book : Opened State
  pub pass : Standing State Event Answer

abbrev pub sitting : Opened State → Standing State Event Answer → Sitting
sitting book pass = record { book = book; pass = pass }

-- the pass is away only within a step
abbrev pub pass_of : Opened State → Option (Standing State Event Answer) → Standing State Event Answer
pass_of book None = record { table = book.table; seen = []; own = []; left = 0 }
pass_of book (Some pass) = pass

abbrev pub state_seen : Sitting → State
state_seen s = end_of s.book.start s.pass.seen

-- the entries of a history as steps: each begins at the state to which all those before it lead
abbrev pub steps_of : State → List (Entry State Event Answer) → List Made
steps_of start [] = []
steps_of start (e ∷ es) = record { before = start; event = e.call; answer = e.reply; after = e.after } ∷ steps_of e.after es

abbrev pub hand_of : Sitting → Hand
hand_of s = record {
  book = Some s.book;
  state = state_seen s;
  left = s.pass.left;
  made = at_places (steps_of s.book.start s.pass.seen) s.pass.own;
}

pub record IsSeated (s : Sitting) : Type 0 where
  pub table : s.pass.table ≡ s.book.table
  pub legal : IsLegal s.book.start s.pass.seen
  pub valid : IsValid (state_seen s).tables
  pub rises : Rises 0 (length s.pass.seen) s.pass.own
