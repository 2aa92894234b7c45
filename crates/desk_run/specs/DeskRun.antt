-- What the run of a desk does.
--     DeskOutside                    what the outside tells: the two ends of the link, the rows that are kept, and the
--                                    faults of their keeper
--     IsStarted before old           old is the state of a desk that was started from the rows
--     IsDeskRun how before after     a run that ended so
use Rattle.std.specs.Prelude.{◌≡◌, Option, None, IfSome}
use Rattle.pb_base.specs.declared.answer.Fail.{Fail}
use Rattle.pb_outside.specs.Faults.{Faults, IsLater}
use Rattle.keeper.specs.Rows.{Kept, begun, migrated}
use Rattle.order_desk.specs.declared.start.StartFault.{StartFault}
use Rattle.order_desk.specs.History.{Reaches}
use Rattle.order_desk.specs.RightRows.{first_bad}
use Rattle.order_desk.specs.Rows.{rows_of}
use Rattle.order_desk.specs.Start.{IsCause, IsLeft}
use Rattle.order_desk.specs.Tables.{State}
use Rattle.order_desk.specs.Valid.{IsValid}
use Rattle.answering.specs.Alone.{hand_alone}
use Rattle.answering.specs.Hand.{Hand}
use Rattle.session.specs.Dealing.{HasDealt}
use Rattle.session.specs.Session.{LinkTold}
use Rattle.session.specs.declared.end.SessionEnd.{SessionEnd}
use Rattle.desk_run.specs.declared.end.DeskEnd.{DeskEnd}
use Rattle.desk_run.specs.declared.end.DeskEnd.TheVariants.{NotStarted, Served}
use Rattle.desk_run.specs.declared.run.TheConstants.{MOST_STEPS}

pub record DeskOutside : Type 0 where
  pub link : LinkTold
  pub rows : Option Kept
  pub faults : Faults

abbrev pub outside : LinkTold → Option Kept → Faults → DeskOutside
outside link rows faults = record { link = link; rows = rows; faults = faults }

-- ---- the start

-- the rows were right, and the tables are theirs; no fault of the keeper was counted
pub record IsStarted (before : DeskOutside) (old : State) : Type 0 where
  pub right : IfSome before.rows (λ rows. first_bad (begun rows) ≡ None)
  pub tables : IfSome before.rows (λ rows. rows_of old.tables ≡ migrated (begun rows))
  pub valid : IsValid old.tables
  pub count : old.faults.count ≡ before.faults.count
  pub later : IsLater before.faults old.faults

-- the desk was not started, nothing of the link was touched, and the rows are as they were, or begun
pub record IsNotStarted (why : Fail StartFault) (before after : DeskOutside) : Type 0 where
  pub cause : IsCause before.rows before.faults after.faults why
  pub left : IsLeft before.rows after.rows why
  pub link : after.link ≡ before.link
  pub later : IsLater before.faults after.faults

-- ---- the session

-- nobody else makes steps of the desk
abbrev pub hand_at : State → Hand
hand_at old = hand_alone (record { state = old; left = MOST_STEPS })

-- a desk in this state served the link, and its keeper was handed back with the rows of the last state
pub record ServesLink (old : State) (end : SessionEnd) (link : LinkTold) (after : DeskOutside) : Type 0 where
  pub new : Hand
  pub dealt : HasDealt end (hand_at old) link after.link new
  pub reaches : Reaches old new.state
  pub valid : IsValid new.state.tables
  pub rows : IfSome after.rows (λ rows. rows ≡ rows_of new.state.tables)
  pub faults : after.faults ≡ new.state.faults

pub record IsServed (end : SessionEnd) (before after : DeskOutside) : Type 0 where
  pub old : State
  pub started : IsStarted before old
  pub served : ServesLink old end before.link after
  pub later : IsLater before.faults after.faults

abbrev pub IsDeskRun : DeskEnd → DeskOutside → DeskOutside → Type 0
IsDeskRun (NotStarted why) before after = IsNotStarted why before after
IsDeskRun (Served end) before after = IsServed end before after
