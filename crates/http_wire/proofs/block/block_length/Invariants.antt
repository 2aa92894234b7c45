use Rattle.std.proofs.Common.{◌≡◌, ◌≤◌, ◌-◌, length, drop}
use Rattle.http_wire.specs.Front.{block_length}
use Rattle.http_wire.proofs.BlockEnds.{further}
use Rattle.http_wire.proofs.block.block_length.Given as goal

-- the rest has the block's end
abbrev pub invariant-loop-place : goal.invariant-loop-place
invariant-loop-place l = record {
  within : l.at ≤ length l.bytes;
  rest : further l.at (block_length (drop l.at l.bytes)) ≡ block_length l.bytes;
}

abbrev pub decreases-loop-place : goal.decreases-loop-place
decreases-loop-place l = length l.bytes - l.at
