use Rattle.std.proofs.Common.{◌≡◌, drop}
use Rattle.firing_sequence.specs.Sequence.{same_node, zip_all}
use Rattle.firing_sequence.proofs.same.same_nodes.Given as goal

abbrev pub invariant-loop-at : goal.invariant-loop-at
invariant-loop-at l = zip_all (same_node l.codes l.others) (drop l.at l.own) (drop l.at l.other) ≡ zip_all (same_node l.codes l.others) l.own l.other
