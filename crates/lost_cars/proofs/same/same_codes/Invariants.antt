use Rattle.std.proofs.Common.{◌≡◌, map, take}
use Rattle.pb_base.specs.declared.node.Leaf.TheVariants.{Code as LeafCode}
use Rattle.lost_cars.specs.ByName.{by_name}
use Rattle.lost_cars.proofs.same.same_codes.Given as goal

abbrev pub invariant-loop-place : goal.invariant-loop-place
invariant-loop-place l =
    map (by_name l.names.own.now l.names.other.now) (take l.place l.other) ≡ map (λ c. LeafCode c) (take l.place l.own)
