use Rattle.std.proofs.Common.{◌-◌, length}
use Rattle.propagate.proofs.LookLaws.{Going}
use Rattle.propagate.proofs.visit.go_through.Given as goal

abbrev pub invariant-loop-at : goal.invariant-loop-at
invariant-loop-at l = Going l.initial.assignment l.assignment l.watched l.code l.from l.at

abbrev pub decreases-loop-at : goal.decreases-loop-at
decreases-loop-at l = length l.entries - l.at
