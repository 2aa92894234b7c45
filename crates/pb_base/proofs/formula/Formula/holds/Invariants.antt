use Rattle.std.proofs.Common.{◌≡◌, ◌-◌, length, true, zero, drop}
use Rattle.pb_base.specs.Rule.{holds}
use Rattle.pb_base.specs.Node.{are_below}
use Rattle.pb_base.proofs.Nodes.{run}
use Rattle.pb_base.proofs.formula.Formula.holds.Given as goal

-- what is left of the list gives the truth of the whole
abbrev pub invariant-loop-at : goal.invariant-loop-at
invariant-loop-at l =
    (run l.set l.value zero (drop l.at l.nodes.items) ≡ holds l.self l.set) × (are_below (length l.set) (drop l.at l.nodes.items) ≡ true)

abbrev pub decreases-loop-at : goal.decreases-loop-at
decreases-loop-at l = length l.nodes.items - l.at
