-- A sink in memory.
use Rattle.std.specs.Prelude.{ℕ, ◌-◌, List, ◌++◌, None, Some, length, Bool, nat_lt, ◌||◌, if◌then◌else◌}
use Rattle.pb_outside.specs.FaultPlan.{Plan, is_to_fail, is_over, after_call, with_fault}
use Rattle.pb_outside.specs.Sink.{SinkTold}

-- what was taken, the room that is left, and the calls that are to fail
pub record Writes : Type 0 where
  pub taken : List ℕ
  pub room : ℕ
  pub plan : Plan

-- what it tells; its room is sure while no call is to fail
abbrev pub told_by : Writes → SinkTold
told_by w = record { taken = Some w.taken; room = if is_over w.plan then Some w.room else None; faults = w.plan.faults }

-- the next call fails: it is to fail, or the piece is longer than the room
abbrev pub refuses : Writes → List ℕ → Bool
refuses w piece = is_to_fail w.plan || nat_lt w.room (length piece)

-- after a call that took the piece
abbrev pub after_write : Writes → List ℕ → Writes
after_write w piece = record { taken = w.taken ++ piece; room = w.room - length piece; plan = after_call w.plan }

-- after a call that took nothing
abbrev pub after_refusal : Writes → Writes
after_refusal w = record { taken = w.taken; room = w.room; plan = if is_to_fail w.plan then after_call w.plan else with_fault (after_call w.plan) }
