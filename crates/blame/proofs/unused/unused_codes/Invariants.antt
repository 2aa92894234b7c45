use Rattle.blame.specs.Absent.{AreUnused}
use Rattle.blame.proofs.unused.unused_codes.Given as goal

abbrev pub invariant-loop-code : goal.invariant-loop-code
invariant-loop-code l = AreUnused l.used l.unused.items
