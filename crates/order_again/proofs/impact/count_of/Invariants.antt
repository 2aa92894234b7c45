use Rattle.std.proofs.Common.{◌≡◌, ◌+◌, ◌≤◌, drop}
use Rattle.std.specs.Prelude.{count_by}
use Rattle.order_again.specs.ImpactText.{is_of}
use Rattle.order_again.proofs.impact.count_of.Given as goal

abbrev pub invariant-loop-again : goal.invariant-loop-again
invariant-loop-again l = (l.count + count_by (is_of l.kind) (drop l.again-index l.told) ≡ count_by (is_of l.kind) l.told) × (l.count ≤ l.again-index)
