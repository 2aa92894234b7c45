-- A link that tells none of its bytes.
use Rattle.std.specs.Prelude.{ℕ, None, false}
use Rattle.pb_door.specs.LinkTold.{LinkTold}

-- what such a link tells, where reading and writing have failed so often
abbrev pub untold : ℕ → ℕ → LinkTold
untold reads writes = record {
  input = record { left = None; faults = record { count = reads; faultless = false } };
  output = record { taken = None; room = None; faults = writes };
}
