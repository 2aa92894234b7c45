-- What one knows and may do who makes steps of the desk.
--     Made                  a step that was made
--     Hand                  the turn book that it stands on, if others step too, the state after all that was seen, how many
--                           steps are left, and which were made
--     Stepped h e a new     the event e was taken and answered with a
--     IsOver h a new        no step is left, and the answer says so
--     Takes h e a new       the one or the other
use Rattle.std.specs.Prelude.{◌≡◌, ◌⊎◌, ℕ, ◌+◌, List, [], ◌∷◌, ◌++◌, Option, None, Some}
use Rattle.desk_words.specs.declared.reply.FullOf.TheVariants as full
use Rattle.desk_words.specs.declared.reply.Reply.TheVariants as reply
use Rattle.order_desk.specs.declared.answer.Answer.{Answer}
use Rattle.order_desk.specs.declared.answer.Answer.TheVariants.{Say}
use Rattle.order_desk.specs.declared.event.Event.{Event}
use Rattle.order_desk.specs.Fits.{Fits}
use Rattle.order_desk.specs.History.{Reaches}
use Rattle.order_desk.specs.Step.{Step}
use Rattle.order_desk.specs.Tables.{State}
use Rattle.turn_book.specs.Standing.{Opened}

-- an event that was taken and its answer, with the states at which the step began and ended
pub record Made : Type 0 where
  pub before : State
  pub event : Event
  pub answer : Answer
  pub after : State

-- who is alone stands on no turn book, and keeps no list of the steps made
pub record Hand : Type 0 where
  pub book : Option (Opened State)
  pub state : State
  pub left : ℕ
  pub made : List Made

-- a step begins at the state that was seen; where others step too, at one that their steps lead to from there
abbrev pub Begins : Option (Opened State) → State → State → Type 0
Begins None seen first = first ≡ seen
Begins (Some book) seen first = Reaches seen first

abbrev pub with_made : Option (Opened State) → List Made → Made → List Made
with_made None made one = made
with_made (Some book) made one = made ++ one ∷ []

pub record Stepped (h : Hand) (event : Event) (answer : Answer) (new : Hand) : Type 0 where
  pub first : State
  pub begins : Begins h.book h.state first
  pub fits : Fits first.tables event
  pub step : Step first event answer new.state
  pub left : h.left ≡ new.left + 1
  pub made : new.made ≡ with_made h.book h.made (record { before = first; event = event; answer = answer; after = new.state })
  pub book : new.book ≡ h.book

pub record IsOver (h : Hand) (answer : Answer) (new : Hand) : Type 0 where
  pub said : answer ≡ Say (reply.Full full.Calls)
  pub none_left : h.left ≡ 0
  pub same : new ≡ h

abbrev pub Takes : Hand → Event → Answer → Hand → Type 0
Takes h event answer new = IsOver h answer new ⊎ Stepped h event answer new
