use Rattle.std.proofs.Common.{take}
use Rattle.blame.specs.Guarding.{AreNamed}
use Rattle.blame.proofs.trying.denied_by.Given as goal

abbrev pub invariant-loop-lit : goal.invariant-loop-lit
invariant-loop-lit l = AreNamed l.first l.count (take l.lit-index l.clause) l.named.items
