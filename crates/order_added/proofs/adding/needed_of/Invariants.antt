use Rattle.std.proofs.Common.{◌+◌, cond, length, ltb}
use Rattle.order_added.proofs.PassLaws.{Needing}
use Rattle.order_added.proofs.adding.needed_of.Given as goal

abbrev pub invariant-loop-needed : goal.invariant-loop-needed
invariant-loop-needed l = Needing l.judge l.initial.added.items l.added.items l.needed

abbrev pub decreases-loop-needed : goal.decreases-loop-needed
decreases-loop-needed l = cond (ltb l.needed (length l.added.items)) (length l.added.items + 1) 0
