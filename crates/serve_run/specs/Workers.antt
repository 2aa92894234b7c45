-- Inner: the workers before and after their work, and what is known while their passes are joined.
use Rattle.std.specs.Prelude.{◌≡◌, ℕ, ◌+◌, ◌*◌, Bool, true, false, List, [], ◌∷◌, ◌++◌, Option, Some, length, map}
use Rattle.std.specs.List.{list_any}
use Rattle.pb_door.specs.DoorTold.{has_failed}
use Rattle.pb_door.specs.PortTold.{PortTold}
use Rattle.turn_book.specs.Standing.{Opened, Standing}
use Rattle.order_desk.specs.declared.answer.Answer.{Answer}
use Rattle.order_desk.specs.declared.event.Event.{Event}
use Rattle.order_desk.specs.Tables.{State}
use Rattle.session.specs.declared.end.SessionEnd.{SessionEnd}
use Rattle.serve_run.specs.declared.work_end.WorkEnd.{WorkEnd}
use Rattle.serve_run.specs.declared.work_end.WorkEnd.TheVariants.{Over, Fault, Memory}
use Rattle.serve_run.specs.declared.end.ServeEnd.{ServeEnd}
use Rattle.serve_run.specs.declared.end.ServeEnd.TheVariants.{Closed, NoWorkers, Worked}
use Rattle.serve_run.specs.ServeRun.{ArePortRuns, AreEnded, IsEnded, IsPortRun, IsServed, all_of}
use Rattle.serve_run.specs.Work.{links_of}

abbrev pub Passed : Type 0
Passed = Standing State Event Answer

-- a worker: its port, its pass, which is away only while it works, how it ended, and the ends that it kept
pub record WorkerTold : Type 0 where
  pub port : PortTold
  pub faultless : Bool
  pub pass : Option Passed
  pub end : WorkEnd
  pub faults : List SessionEnd

abbrev pub AreEmpty : {A B C : Type 0} → List A → List B → List C → Type 0
AreEmpty xs ys zs = (xs ≡ []) × (ys ≡ []) × (zs ≡ [])

-- a port that gave nothing yet
pub record IsUnused (port : PortTold) : Type 0 where
  pub given : port.given ≡ []
  pub ended : port.ended ≡ []
  pub none_out : port.out ≡ false
  pub no_faults : port.faults ≡ 0

-- a pass of the book that has made nothing and has so many calls
pub record IsFresh (book : Opened State) (share : ℕ) (pass : Passed) : Type 0 where
  pub table : pass.table ≡ book.table
  pub seen : pass.seen ≡ []
  pub own : pass.own ≡ []
  pub left : pass.left ≡ share

pub record IsReady (book : Opened State) (share : ℕ) (w : WorkerTold) : Type 0 where
  pub pass : Passed
  pub has : w.pass ≡ Some pass
  pub fresh : IsFresh book share pass
  pub port : IsUnused w.port
  pub no_faults : w.faults ≡ []

abbrev pub IsUnfailing : WorkEnd → Type 0
IsUnfailing Over = Unit {0}
IsUnfailing Fault = ⊥
IsUnfailing Memory = Unit {0}

-- its port was served with the calls of its pass
pub record IsDone (book : Opened State) (share : ℕ) (w : WorkerTold) : Type 0 where
  pub pass : Passed
  pub has : w.pass ≡ Some pass
  pub table : pass.table ≡ book.table
  pub run : IsPortRun book share pass.seen w.port pass.own w.faults
  pub counted : pass.left + length pass.own ≡ share
  pub ended : IsEnded w.end w.port
  pub cause : w.end ≡ Fault → has_failed w.port ≡ true

-- it has the same port, which has not failed if it had said that no call fails
pub record IsSameWorker (before w : WorkerTold) : Type 0 where
  pub number : w.port.number ≡ before.port.number
  pub share : links_of w.port ≡ links_of before.port
  pub unfailing : before.faultless ≡ true → IsUnfailing w.end

-- the end that tells least of the ports
abbrev pub worse : WorkEnd → WorkEnd → WorkEnd
worse Over other = other
worse Fault Over = Fault
worse Fault Fault = Fault
worse Fault Memory = Memory
worse Memory other = Memory

-- the passes of some workers were joined to this one, and those of the rest are still out
pub record IsJoined (book : Opened State) (share limit : ℕ) (pass : Passed) (ports : List PortTold) (faults : List (List SessionEnd)) (end : WorkEnd) (rest : ℕ) : Type 0 where
  pub table : pass.table ≡ book.table
  pub places : List (List ℕ)
  pub own : pass.own ≡ all_of places
  pub runs : ArePortRuns book share pass.seen ports places faults
  pub counted : pass.left + length pass.own + share * rest ≡ limit
  pub ended : AreEnded end ports
  pub cause : end ≡ Fault → list_any has_failed ports ≡ true

-- ---- a run over some ports

-- the workers of these ports ended
pub record IsPortsWorked (end : WorkEnd) (old new : State) (share : ℕ) (ports ports' : List PortTold) (faults : List (List SessionEnd)) : Type 0 where
  pub served : IsServed old new share ports' faults
  pub ended : AreEnded end ports'
  pub numbers : map (λ p. p.number) ports' ≡ map (λ p. p.number) ports
  pub shares : map links_of ports' ≡ map links_of ports
  pub cause : end ≡ Fault → list_any has_failed ports' ≡ true

abbrev pub IsPortsRun : ServeEnd → State → State → ℕ → List PortTold → List PortTold → List (List SessionEnd) → Type 0
IsPortsRun (Closed why) old new share ports ports' faults = ⊥
IsPortsRun NoWorkers old new share ports ports' faults = (new ≡ old) × (ports' ≡ ports) × (faults ≡ [])
IsPortsRun (Worked end) old new share ports ports' faults = IsPortsWorked end old new share ports ports' faults

-- no port failed
abbrev pub IsQuiet : ServeEnd → Type 0
IsQuiet (Closed why) = Unit {0}
IsQuiet NoWorkers = Unit {0}
IsQuiet (Worked end) = IsUnfailing end
