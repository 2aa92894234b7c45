use Rattle.blame.specs.Cases.{NeedsCase}
use Rattle.blame.specs.Guarding.{AreMore}
use Rattle.blame.proofs.rotating.change_each.Given as goal

abbrev pub invariant-loop-code : goal.invariant-loop-code
invariant-loop-code l = NeedsCase l.case l.kept l.needed.items × AreMore l.initial.needed.items l.needed.items
