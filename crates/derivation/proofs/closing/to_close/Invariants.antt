use Rattle.std.proofs.Common.{◌≡◌, ◌++◌, drop}
use Rattle.derivation.specs.Stage.{to_close}
use Rattle.derivation.proofs.closing.to_close.Given as goal

abbrev pub invariant-loop-number : goal.invariant-loop-number
invariant-loop-number l = l.all.items ++ to_close l.number (drop l.number l.asked) ≡ to_close 0 l.asked
