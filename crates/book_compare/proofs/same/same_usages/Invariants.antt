use Rattle.book_compare.specs.Same.{AreSameBelow}
use Rattle.book_compare.proofs.same.same_usages.Given as goal

abbrev pub invariant-loop-place : goal.invariant-loop-place
invariant-loop-place l = AreSameBelow l.numbers l.first l.own l.second l.other l.place
