-- What many workers do with one desk.
--     hand_at book share                     what the holder of a port knows and may do before its first link
--     IsPortRun book share history port places faults
--                                            the links of a port were served, and its entries stand at these places
--     IsServed old new share ports faults    all ports were served in one history
--     AreEnded end ports                     what the end of the whole run says of each port
--     IsServeRun how old new share links workers faults before after
--                                            a run that ended so
use Rattle.std.specs.Prelude.{◌≡◌, ◌⊎◌, ℕ, ◌<◌, true, false, List, [], ◌∷◌, ◌++◌, Option, None, Some, length, map}
use Rattle.pb_outside.specs.Faults.{Rose}
use Rattle.pb_outside.specs.declared.error.OutError.TheVariants.{Failed, Memory as NoMemory}
use Rattle.pb_door.specs.DoorTold.{DoorTold, counts, lends, takes_back}
use Rattle.pb_door.specs.PortTold.{PortTold, new_ports, numbers_below, share_of}
use Rattle.turn_book.specs.History.{AreAllBelow, end_of}
use Rattle.turn_book.specs.Places.{Rises, at_places}
use Rattle.turn_book.specs.Standing.{Opened}
use Rattle.turn_book.specs.declared.entry.Entry.{Entry}
use Rattle.order_desk.specs.declared.answer.Answer.{Answer}
use Rattle.order_desk.specs.declared.event.Event.{Event}
use Rattle.order_desk.specs.History.{IsLegal}
use Rattle.order_desk.specs.Tables.{State}
use Rattle.answering.specs.Hand.{Hand}
use Rattle.answering.specs.Seat.{steps_of}
use Rattle.session.specs.declared.end.SessionEnd.{SessionEnd}
use Rattle.serve_run.specs.Work.{Notes, ServesLinks, links_of}
use Rattle.serve_run.specs.declared.work_end.WorkEnd.{WorkEnd}
use Rattle.serve_run.specs.declared.work_end.WorkEnd.TheVariants.{Over, Fault, Memory}
use Rattle.serve_run.specs.declared.end.ServeEnd.{ServeEnd}
use Rattle.serve_run.specs.declared.end.ServeEnd.TheVariants.{Closed, NoWorkers, Worked}

abbrev pub Log : Type 0
Log = List (Entry State Event Answer)

-- it has seen the state at the start, and has made no step
abbrev pub hand_at : Opened State → ℕ → Hand
hand_at book share = record { book = Some book; state = book.start; left = share; made = [] }

-- its links were served one after the other by one holder, whose steps are those at rising places of the history. So each
-- begins at the state to which all entries before it lead, and what the holder has seen by then is the state after its step
-- before, which is that of a front of these entries. Of the sessions in which a link failed, these ends were kept
pub record IsPortRun (book : Opened State) (share : ℕ) (history : Log) (port : PortTold) (places : List ℕ) (faults : List SessionEnd) : Type 0 where
  pub ends : List SessionEnd
  pub hand : Hand
  pub serves : ServesLinks ends (hand_at book share) port.given port.ended hand
  pub made : hand.made ≡ at_places (steps_of book.start history) places
  pub rises : Rises 0 (length history) places
  pub notes : Notes ends faults
  pub none_out : port.out ≡ false

abbrev pub ArePortRuns : Opened State → ℕ → Log → List PortTold → List (List ℕ) → List (List SessionEnd) → Type 0
ArePortRuns book share history [] [] [] = Unit {0}
ArePortRuns book share history (port ∷ ports) (places ∷ others) (faults ∷ more) =
    IsPortRun book share history port places faults × ArePortRuns book share history ports others more
ArePortRuns book share history ports places faults = ⊥

abbrev pub all_of : {A : Type 0} → List (List A) → List A
all_of [] = []
all_of (xs ∷ lists) = xs ++ all_of lists

-- one legal history leads from the old state to the new one; each of its entries is a step of just one port
pub record IsServed (old new : State) (share : ℕ) (ports : List PortTold) (faults : List (List SessionEnd)) : Type 0 where
  pub book : Opened State
  pub opened : book.start ≡ old
  pub history : Log
  pub legal : IsLegal old history
  pub reached : end_of old history ≡ new
  pub places : List (List ℕ)
  pub runs : ArePortRuns book share history ports places faults
  pub whole : AreAllBelow (length history) (all_of places)

abbrev pub IsEnded : WorkEnd → PortTold → Type 0
IsEnded Over port = port.over ≡ true
IsEnded Fault port = (port.over ≡ true) ⊎ (0 < port.faults)
IsEnded Memory port = Unit {0}

abbrev pub AreEnded : WorkEnd → List PortTold → Type 0
AreEnded end [] = Unit {0}
AreEnded end (port ∷ ports) = IsEnded end port × AreEnded end ports

-- ---- the whole run

-- the workers ended: all ports came back, each has given and may still give its share of the links, and the desk is the one
-- after all their steps
pub record IsWorked (end : WorkEnd) (old new : State) (share links workers : ℕ) (faults : List (List SessionEnd)) (before after : DoorTold) : Type 0 where
  pub served : IsServed old new share after.back faults
  pub ended : AreEnded end after.back
  pub numbers : map (λ p. p.number) after.back ≡ numbers_below workers
  pub shares : map links_of after.back ≡ map (share_of links workers) (numbers_below workers)
  pub told : after ≡ takes_back after.back (lends workers before)
  pub cause : end ≡ Fault → Rose before.faults after.faults

-- nothing was served: the door gave no ports, or they came back as they were
abbrev pub IsUnserved : State → State → List (List SessionEnd) → Type 0
IsUnserved old new faults = (new ≡ old) × (faults ≡ [])

-- so it ended, in the desk's states and in what the door tells
abbrev pub IsServeRun : ServeEnd → State → State → ℕ → ℕ → ℕ → List (List SessionEnd) → DoorTold → DoorTold → Type 0
IsServeRun (Closed why) old new share links workers faults before after =
    IsUnserved old new faults × (after ≡ counts after.faults before) × (why ≡ Failed → Rose before.faults after.faults)
IsServeRun NoWorkers old new share links workers faults before after =
    IsUnserved old new faults × (after ≡ takes_back (new_ports links workers) (lends workers before))
IsServeRun (Worked end) old new share links workers faults before after = IsWorked end old new share links workers faults before after

-- where no call on the door or its ports fails, each port is over, or memory was wanting
abbrev pub IsOverOrMemory : ServeEnd → Type 0
IsOverOrMemory how = (how ≡ Worked Over) ⊎ (how ≡ Worked Memory) ⊎ (how ≡ NoWorkers) ⊎ (how ≡ Closed NoMemory)
