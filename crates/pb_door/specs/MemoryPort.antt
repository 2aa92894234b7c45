-- A port in memory.
use Rattle.std.specs.Prelude.{ℕ, ◌-◌, ◌==◌, Bool, true, List, [], ◌∷◌, ◌++◌, Option, None, Some, All, map, drop, if◌then◌else◌}
use Rattle.pb_outside.specs.FaultPlan.{Plan, after_call}
use Rattle.pb_outside.specs.MemoryLink.{Exchange}
use Rattle.pb_outside.specs.MemorySink.{told_by as sink_told_by}
use Rattle.pb_outside.specs.MemorySource.{told_by as source_told_by}
use Rattle.pb_door.specs.LinkTold.{LinkTold, IsUnwritten, link_told}
use Rattle.pb_door.specs.PortTold.{PortTold}

-- what a link in memory tells
abbrev pub exchange_told : Exchange → LinkTold
exchange_told e = link_told (source_told_by e.reads) (sink_told_by e.writes)

abbrev pub AreUnwritten : List Exchange → Type 0
AreUnwritten links = All (λ e. IsUnwritten (exchange_told e)) links

-- coming: the links that are still to be given, as far as the number allows; plan: the calls that are to fail
pub record PortState : Type 0 where
  pub number : ℕ
  pub left : ℕ
  pub coming : List Exchange
  pub given : List Exchange
  pub ended : List Exchange
  pub out : Bool
  pub over : Bool
  pub plan : Plan

abbrev pub told_by : PortState → PortTold
told_by b = record {
  number = b.number;
  left = b.left;
  given = map exchange_told b.given;
  ended = map exchange_told b.ended;
  out = b.out;
  over = b.over;
  faults = b.plan.faults;
}

abbrev pub first_of : List Exchange → Option Exchange
first_of [] = None
first_of (e ∷ links) = Some e

-- the link that is next, if it may give one and has one
abbrev pub next_link : PortState → Option Exchange
next_link p = if p.left == 0 then None else first_of p.coming

-- after a call that failed
abbrev pub after_refusal : PortState → PortState
after_refusal p = record { number = p.number; left = p.left; coming = p.coming; given = p.given; ended = p.ended; out = p.out; over = p.over; plan = after_call p.plan }

-- after a call that gave this link, or none
abbrev pub after_next : Option Exchange → PortState → PortState
after_next None p = record { number = p.number; left = p.left; coming = p.coming; given = p.given; ended = p.ended; out = p.out; over = true; plan = after_call p.plan }
after_next (Some e) p = record { number = p.number; left = p.left - 1; coming = drop 1 p.coming; given = p.given ++ e ∷ []; ended = p.ended; out = true; over = p.over; plan = after_call p.plan }
