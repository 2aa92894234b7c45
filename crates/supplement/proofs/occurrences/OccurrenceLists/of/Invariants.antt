-- The index leads to the rules so far.
use Rattle.std.proofs.Common.{length}
use Rattle.supplement.specs.Occurrences.{AreLinked, ListsFirst}
use Rattle.supplement.proofs.occurrences.OccurrenceLists.of.Given as goal

abbrev pub invariant-loop-place : goal.invariant-loop-place
invariant-loop-place l = AreLinked l.codes (length l.supplements) l.lists × ListsFirst l.lists l.supplements l.place
