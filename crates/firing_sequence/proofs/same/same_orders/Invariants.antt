use Rattle.std.proofs.Common.{◌≡◌, drop}
use Rattle.firing_sequence.specs.Sequence.{same_at, zip_all}
use Rattle.firing_sequence.proofs.same.same_orders.Given as goal

abbrev pub invariant-loop-at : goal.invariant-loop-at
invariant-loop-at l = zip_all (same_at l.first l.second) (drop l.at l.own) (drop l.at l.other) ≡ zip_all (same_at l.first l.second) l.own l.other
