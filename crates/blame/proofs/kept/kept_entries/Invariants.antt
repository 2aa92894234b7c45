use Rattle.std.proofs.Common.{◌≡◌, take}
use Rattle.blame.specs.Guarding.{kept_of}
use Rattle.blame.proofs.kept.kept_entries.Given as goal

abbrev pub invariant-loop-place : goal.invariant-loop-place
invariant-loop-place l = l.some.items ≡ kept_of (take l.place l.entries) l.kept
