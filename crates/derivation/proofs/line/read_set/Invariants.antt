use Rattle.std.proofs.Common.{◌≡◌, length}
use Rattle.derivation.specs.CertLine.{set_from}
use Rattle.derivation.proofs.ReadLaws.{set_on}
use Rattle.derivation.proofs.line.read_set.Given as goal

abbrev pub invariant-loop-word : goal.invariant-loop-word
invariant-loop-word l = set_on l.names l.words ≡ set_from l.initial.words

abbrev pub decreases-loop-word : goal.decreases-loop-word
decreases-loop-word l = length l.words
