-- What a worker does with the links of its port.
--     ServesLinks ends h given ended new             links that were served one after the other
--     links_of port                                  how many links it has given and may still give
--     Notes ends kept                                what is kept of how their sessions ended
--     Works end h before after log log' new          a worker that ended so
--     WorksOn h before log h' after log'             inner: whatever work follows makes a whole with what went before
use Rattle.std.specs.Prelude.{◌≡◌, ◌⊎◌, ℕ, ◌+◌, ◌≤◌, Bool, true, false, List, [], ◌∷◌, ◌++◌, length}
use Rattle.pb_outside.specs.Faults.{Rose}
use Rattle.pb_door.specs.LinkTold.{LinkTold}
use Rattle.pb_door.specs.PortTold.{PortTold}
use Rattle.answering.specs.Hand.{Hand}
use Rattle.session.specs.Dealing.{HasDealt}
use Rattle.session.specs.Session.{told}
use Rattle.session.specs.declared.end.SessionEnd.{SessionEnd}
use Rattle.session.specs.declared.end.SessionEnd.TheVariants.{Done, Broken, ReadFault, WriteFault, Memory}
use Rattle.serve_run.specs.declared.work_end.WorkEnd.{WorkEnd}
use Rattle.serve_run.specs.declared.work_end.WorkEnd.TheVariants.{Over, Fault, Memory as NoMemory}

-- each link as it stood when it was given and when it was handed back; the first begins with what the holder of the desk
-- knew at first, and each other one with what the one before it left
abbrev pub ServesLinks : List SessionEnd → Hand → List LinkTold → List LinkTold → Hand → Type 0
ServesLinks [] h [] [] new = new ≡ h
ServesLinks (end ∷ ends) h (before ∷ given) (after ∷ ended) new =
    (mid : Hand)
    × HasDealt end h (told before.input before.output) (told after.input after.output) mid
    × ServesLinks ends mid given ended new
ServesLinks ends h given ended new = ⊥

-- the link failed while it was read or written
abbrev pub is_fault : SessionEnd → Bool
is_fault Done = false
is_fault Broken = false
is_fault (ReadFault fault) = true
is_fault (WriteFault fault) = true
is_fault Memory = false

-- of these ends some of those with a fault, in order: each for which there was memory
abbrev pub Notes : List SessionEnd → List SessionEnd → Type 0
Notes [] kept = kept ≡ []
Notes (end ∷ ends) kept = Notes ends kept ⊎ ((more : List SessionEnd) × (is_fault end ≡ true) × (kept ≡ end ∷ more) × Notes ends more)

-- what each end says of the port
abbrev pub EndsWork : WorkEnd → PortTold → PortTold → Type 0
EndsWork Over before after = after.over ≡ true
EndsWork Fault before after = Rose before.faults after.faults
EndsWork NoMemory before after = Unit {0}

-- how many links a port has given and may still give
abbrev pub links_of : PortTold → ℕ
links_of p = p.left + length p.given

-- given, ended: the links that the port gave meanwhile, and the same when they were handed back
pub record Works (end : WorkEnd) (h : Hand) (before after : PortTold) (log log' : List SessionEnd) (new : Hand) : Type 0 where
  pub ends : List SessionEnd
  pub given : List LinkTold
  pub ended : List LinkTold
  pub gave : after.given ≡ before.given ++ given
  pub took : after.ended ≡ before.ended ++ ended
  pub serves : ServesLinks ends h given ended new
  pub kept : List SessionEnd
  pub logged : log' ≡ log ++ kept
  pub notes : Notes ends kept
  pub share : links_of after ≡ links_of before
  pub number : after.number ≡ before.number
  pub none_out : after.out ≡ false
  pub never_falls : before.faults ≤ after.faults
  pub cause : EndsWork end before after

-- ---- inner

abbrev pub WorksOn : Hand → PortTold → List SessionEnd → Hand → PortTold → List SessionEnd → Type 0
WorksOn h before log h' after log' =
    (end : WorkEnd) (last : PortTold) (more : List SessionEnd) (new : Hand)
    → Works end h' after last log' more new → Works end h before last log more new

-- how a session ended is kept where it is a fault and there is memory for it
abbrev pub KeepsEnd : SessionEnd → List SessionEnd → List SessionEnd → Type 0
KeepsEnd end log log' = (log' ≡ log) ⊎ ((is_fault end ≡ true) × (log' ≡ log ++ end ∷ []))
