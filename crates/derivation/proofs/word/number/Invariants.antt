use Rattle.std.proofs.Common.{◌≡◌, drop}
use Rattle.derivation.specs.Kept.{digits_kept}
use Rattle.derivation.proofs.word.number.Given as goal

abbrev pub invariant-loop-b : goal.invariant-loop-b
invariant-loop-b l = digits_kept l.value (drop l.b-index l.word) ≡ digits_kept 0 l.word
