use Rattle.std.proofs.Common.{◌≡◌, map, take}
use Rattle.pb_base.specs.Leaves.{node_with}
use Rattle.lost_cars.specs.ByName.{by_name}
use Rattle.lost_cars.proofs.same.same_nodes.Given as goal

abbrev pub invariant-loop-place : goal.invariant-loop-place
invariant-loop-place l = map (node_with (by_name l.names.own.now l.names.other.now)) (take l.place l.other) ≡ take l.place l.own
