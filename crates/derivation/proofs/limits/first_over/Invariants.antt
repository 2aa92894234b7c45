use Rattle.std.proofs.Common.{◌≡◌, drop}
use Rattle.derivation.specs.Limits.{first_over}
use Rattle.derivation.proofs.limits.first_over.Given as goal

abbrev pub invariant-loop-place : goal.invariant-loop-place
invariant-loop-place l = first_over l.place l.book (drop l.place l.slices) ≡ first_over 0 l.book l.slices
