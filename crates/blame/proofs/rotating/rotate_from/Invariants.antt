use Rattle.blame.specs.Cases.{NeedsCase}
use Rattle.blame.specs.Guarding.{AreMore}
use Rattle.blame.proofs.rotating.rotate_from.Given as goal

abbrev pub invariant-loop-left : goal.invariant-loop-left
invariant-loop-left l = NeedsCase l.case l.kept l.needed.items × AreMore l.initial.needed.items l.needed.items

abbrev pub decreases-loop-left : goal.decreases-loop-left
decreases-loop-left l = l.left
