use Rattle.std.proofs.Common.{drop}
use Rattle.clausify.specs.Pairs.{pairs}
use Rattle.clausify.proofs.Remaining.{PairsLeft}
use Rattle.clausify.proofs.goals.ask_pairs.Given as goal

abbrev pub invariant-loop-place : goal.invariant-loop-place
invariant-loop-place l = PairsLeft l.initial.encoder l.encoder l.initial.asked.items l.asked.items l.position (pairs l.usages) (pairs (drop l.place l.usages))
