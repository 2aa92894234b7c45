use Rattle.std.proofs.Common.{◌≡◌, map}
use Rattle.lost_cars.specs.CommonCar.{any_rule}
use Rattle.lost_cars.proofs.common_cars.none_of.Given as goal

-- one of the formulas that were taken is true
abbrev pub invariant-loop-ask : goal.invariant-loop-ask
invariant-loop-ask l = l.any ≡ any_rule (map (λ a. a.rule) l.yielded)
