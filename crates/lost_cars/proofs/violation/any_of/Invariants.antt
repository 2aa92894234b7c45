use Rattle.std.proofs.Common.{◌≡◌, drop}
use Rattle.lost_cars.specs.Violation.{any_from, any_of}
use Rattle.lost_cars.proofs.violation.any_of.Given as goal

abbrev pub invariant-loop-code : goal.invariant-loop-code
invariant-loop-code l = any_from l.any (drop l.code-index l.codes) ≡ any_of l.codes
