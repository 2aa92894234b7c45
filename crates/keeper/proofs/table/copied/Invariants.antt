use Rattle.std.proofs.Common.{◌≡◌, take}
use Rattle.keeper.proofs.table.copied.Given as goal

-- the rows so far are copied
abbrev pub invariant-loop-row : goal.invariant-loop-row
invariant-loop-row g l = l.copy.items ≡ take l.row-index l.row-items
