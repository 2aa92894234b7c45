use Rattle.std.proofs.Common.{◌≡◌, ◌++◌, drop}
use Rattle.order_again.specs.StockText.{lines_from}
use Rattle.order_again.proofs.text.put_lines.Given as goal

-- the lines so far, then those of the orders that are left
abbrev pub invariant-loop-place : goal.invariant-loop-place
invariant-loop-place l = l.text ++ lines_from l.to (drop l.place l.stock) (drop l.place l.told) ≡ l.initial.text ++ lines_from l.to l.stock l.told
