use Rattle.std.proofs.Common.{◌≡◌, drop}
use Rattle.lost_cars.specs.Violation.{two_from, two_of}
use Rattle.lost_cars.proofs.violation.two_of.Given as goal

abbrev pub invariant-loop-place : goal.invariant-loop-place
invariant-loop-place l = two_from l.two (drop l.place l.codes) ≡ two_of l.codes
