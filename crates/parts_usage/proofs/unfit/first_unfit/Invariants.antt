use Rattle.std.proofs.Common.{◌≡◌, drop}
use Rattle.parts_usage.specs.Unfit.{first_unfit_of, first_unfit_from}
use Rattle.parts_usage.proofs.unfit.first_unfit.Given as goal

-- what is found is found in the positions that are left
abbrev pub invariant-loop-place : goal.invariant-loop-place
invariant-loop-place l =
    first_unfit_of l.book l.day l.set ≡ first_unfit_from l.place l.book l.day l.set (drop l.place l.book.positions)
