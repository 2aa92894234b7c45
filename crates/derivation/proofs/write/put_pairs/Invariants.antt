use Rattle.std.proofs.Common.{◌≡◌, ◌++◌, drop, take}
use Rattle.std.specs.List.{All}
use Rattle.derivation.specs.Written.{PairFits, pair_words, spaced}
use Rattle.derivation.proofs.write.put_pairs.Given as goal

abbrev pub invariant-loop-pair : goal.invariant-loop-pair
invariant-loop-pair l = record {
  words : l.text ++ spaced (pair_words (drop l.pair-index l.pairs)) ≡ l.initial.text ++ spaced (pair_words l.pairs);
  fit : All PairFits (take l.pair-index l.pairs);
}
