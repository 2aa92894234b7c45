use Rattle.std.proofs.Common.{◌≡◌, ℕ, true}
use Rattle.pb_base.specs.Sets.{has}
use Rattle.blame.specs.Guarding.{AreFewer}
use Rattle.blame.proofs.trying.keep_named.Given as goal

abbrev pub invariant-loop-place : goal.invariant-loop-place
invariant-loop-place l =
    AreFewer l.initial.kept.items l.kept.items × ((k : ℕ) → has l.initial.kept.items k ≡ true → has l.named k ≡ true → has l.kept.items k ≡ true)
