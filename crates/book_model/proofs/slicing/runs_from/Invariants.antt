-- The slices so far and those of the days that are left are all of them.
use Rattle.std.proofs.Common.{◌≡◌, ◌++◌, drop}
use Rattle.book_model.specs.Slices.{runs_from}
use Rattle.book_model.proofs.slicing.runs_from.Given as goal

abbrev pub invariant-loop-place : goal.invariant-loop-place
invariant-loop-place l = l.slices.items ++ runs_from (drop l.place l.days) l.last ≡ runs_from l.days l.last
