use Rattle.std.proofs.Common.{◌-◌, length}
use Rattle.propagate.specs.Visiting.{scene}
use Rattle.propagate.specs.Watching.{list_of}
use Rattle.propagate.proofs.LookLaws.{AtEntry}
use Rattle.propagate.proofs.visit.visit.Given as goal

abbrev pub invariant-loop-at : goal.invariant-loop-at
invariant-loop-at l = AtEntry (scene l.initial.assignment l.initial.watched) (scene l.assignment l.watched) l.code l.from

abbrev pub decreases-loop-at : goal.decreases-loop-at
decreases-loop-at l = length (list_of l.watched l.code) - l.from
