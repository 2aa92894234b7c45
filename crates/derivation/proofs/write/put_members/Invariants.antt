use Rattle.std.proofs.Common.{◌≡◌, ◌++◌, drop}
use Rattle.derivation.specs.Written.{members, spaced}
use Rattle.derivation.proofs.write.put_members.Given as goal

abbrev pub invariant-loop-place : goal.invariant-loop-place
invariant-loop-place l = l.text ++ spaced (members (drop l.place l.table) (drop l.place l.set)) ≡ l.initial.text ++ spaced (members l.table l.set)
