-- A whole run of a desk whose rows are in a journal, and a stop at any moment of it.
--     Standing             the desk, how far its keeper has come, and the file, between two calls
--     Moves                one call of the desk
--     MayBeLeft            what a stop leaves between two calls, or in one that is going on
--     IsStartedOn          the tables of a desk that is started on a file
--     WasCutOff            the events of which one more may be there
--     IsThatOrOneMore      these tables, or those after one more of such events
use Rattle.std.specs.Prelude.{◌≡◌, ◌⊎◌, ℕ, true, List, [], ◌∷◌, Option, None, Some}
use Rattle.desk_words.specs.declared.order_words.OrderWords.{OrderWords}
use Rattle.desk_words.specs.declared.reply.Reply.TheVariants as reply
use Rattle.journal_keeper.specs.declared.stage.Stage.{Stage}
use Rattle.journal_keeper.specs.Journal.{kept_in}
use Rattle.journal_keeper.specs.Record.{Entry}
use Rattle.journal_keeper.specs.Stage.{seen_by, doubted_by, is_open, StillStands, StandsOrGrew}
use Rattle.keeper.specs.Rows.{begun, migrated}
use Rattle.order_desk.specs.declared.answer.Answer.{Answer}
use Rattle.order_desk.specs.declared.answer.Answer.TheVariants as answer
use Rattle.order_desk.specs.declared.event.Event.{Event}
use Rattle.order_desk.specs.declared.event.Event.TheVariants as event
use Rattle.order_desk.specs.Effect.{keeps, effect}
use Rattle.order_desk.specs.Fits.{Fits}
use Rattle.order_desk.specs.Rows.{rows_of}
use Rattle.order_desk.specs.Step.{Step}
use Rattle.order_desk.specs.Tables.{Tables, State}
use Rattle.order_desk.specs.Valid.{IsValid}
use Rattle.turn_book.specs.History.{IsHistory}
use Rattle.turn_book.specs.declared.entry.Entry as taken
use Rattle.journal_desk.specs.Stop.{put_of}

pub record Standing : Type 0 where
  pub desk : State
  pub stage : Stage
  pub file : List ℕ

-- the record behind a gate in doubt, if one is
abbrev pub late_of : Standing → Option Entry
late_of s = doubted_by s.stage s.file

-- the keeper has a journal, and tells the desk's own rows
pub record IsOverJournal (s : Standing) : Type 0 where
  pub opened : is_open s.stage ≡ true
  pub told : seen_by s.stage s.file ≡ rows_of s.desk.tables

-- as a start leaves it
pub record IsStart (s : Standing) : Type 0 where
  pub over : IsOverJournal s
  pub valid : IsValid s.desk.tables
  pub sure : late_of s ≡ None

abbrev pub IsStoreFault : Answer → Type 0
IsStoreFault given = (before : ℕ) × (after : ℕ) × (given ≡ answer.Say (reply.StoreFault before after))

-- No gate is in doubt after the call, or the call changed nothing: then it is the gate that was in doubt before, or that of the
-- call's own put, and the call was answered with a store fault.
abbrev pub LeavesInDoubt : Standing → Event → Answer → Standing → Type 0
LeavesInDoubt old event given new =
    (late_of new ≡ None)
    ⊎ ((new.desk.tables ≡ old.desk.tables)
    × ((late_of new ≡ late_of old) ⊎ (IsStoreFault given × (late_of new ≡ put_of old.desk.tables event))))

pub record Moves (old : Standing) (event : Event) (given : Answer) (new : Standing) : Type 0 where
  pub step : Step old.desk event given new.desk
  pub over : IsOverJournal new
  pub doubt : LeavesInDoubt old event given new

-- the calls so far: each fits the desk as it then is
abbrev pub History : Type 0
History = List (taken.Entry Standing Event Answer)

abbrev pub IsRun : Standing → History → Type 0
IsRun start history = IsHistory (λ s. Fits s.desk.tables) Moves start history

-- ---- a stop

abbrev pub put_that_goes_on : Tables → Option Event → Option Entry
put_that_goes_on t None = None
put_that_goes_on t (Some event) = put_of t event

abbrev pub StandsWith : Option Entry → Stage → List ℕ → List ℕ → Type 0
StandsWith None stage file image = StillStands stage file image
StandsWith (Some entry) stage file image = StandsOrGrew entry stage file image

-- in the call of an event that is going on, or between two calls
abbrev pub MayBeLeft : Standing → Option Event → List ℕ → Type 0
MayBeLeft s going image = StandsWith (put_that_goes_on s.desk.tables going) s.stage s.file image

-- ---- what is found

pub record IsStartedOn (file : List ℕ) (t : Tables) : Type 0 where
  pub rows : rows_of t ≡ migrated (begun (kept_in file))
  pub valid : IsValid t

-- the event was answered with a store fault
abbrev pub HasFailed : History → Event → Type 0
HasFailed [] event = ⊥
HasFailed (e ∷ es) event = ((e.call ≡ event) × IsStoreFault e.reply) ⊎ HasFailed es event

-- or it was going on at the stop
abbrev pub WasCutOff : History → Option Event → Event → Type 0
WasCutOff history going event = (going ≡ Some event) ⊎ HasFailed history event

abbrev pub IsThatOrOneMore : Tables → (Event → Type 0) → Tables → Type 0
IsThatOrOneMore t may found =
    (found ≡ t)
    ⊎ ((event : Event) × (due : Answer) × (after : Tables) × may event × (effect t event ≡ keeps due after) × (found ≡ after))

-- the order was answered as placed
abbrev pub WasPlaced : History → List ℕ → ℕ → OrderWords → Type 0
WasPlaced [] caller number order = ⊥
WasPlaced (e ∷ es) caller number order =
    ((e.call ≡ event.Place caller number order) × (e.reply ≡ answer.Placed)) ⊎ WasPlaced es caller number order
