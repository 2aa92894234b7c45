use Rattle.std.proofs.Common.{◌≡◌, length}
use Rattle.derivation.specs.Kept.{pairs_kept}
use Rattle.derivation.proofs.ReadLaws.{pairs_on}
use Rattle.derivation.proofs.line.read_pairs.Given as goal

abbrev pub invariant-loop-words : goal.invariant-loop-words
invariant-loop-words l = pairs_on l.pairs.items (pairs_kept l.words) ≡ pairs_kept l.initial.words

abbrev pub decreases-loop-words : goal.decreases-loop-words
decreases-loop-words l = length l.words
