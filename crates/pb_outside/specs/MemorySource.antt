-- A source in memory.
use Rattle.std.specs.Prelude.{ℕ, List, Some, length, drop, min, max, nat_lt, slice_index, if◌then◌else◌}
use Rattle.pb_outside.specs.FaultPlan.{Plan, after_call, faults_of}
use Rattle.pb_outside.specs.Source.{SourceTold}

-- the bytes that are left, the most bytes that each call gives, and the calls that are to fail
pub record Reads : Type 0 where
  pub left : List ℕ
  pub pieces : List ℕ
  pub plan : Plan

-- what it tells
abbrev pub told_by : Reads → SourceTold
told_by r = record { left = Some r.left; faults = faults_of r.plan }

-- the most bytes that a call of this number gives: at least 1, and as many as it may where there is no such piece
abbrev pub piece_limit : List ℕ → ℕ → ℕ → ℕ
piece_limit pieces call most = if nat_lt call (length pieces) then min most (max 1 (slice_index pieces call)) else most

-- how many bytes the next call gives
abbrev pub next_count : Reads → ℕ → ℕ
next_count r most = min (piece_limit r.pieces r.plan.next_call most) (length r.left)

-- after a call that gave so many bytes
abbrev pub after_read : ℕ → Reads → Reads
after_read count r = record { left = drop count r.left; pieces = r.pieces; plan = after_call r.plan }
