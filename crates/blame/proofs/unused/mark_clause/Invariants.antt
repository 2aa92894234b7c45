use Rattle.std.proofs.Common.{take}
use Rattle.blame.specs.Absent.{AreMoreUsed, IsClauseUsed}
use Rattle.blame.proofs.unused.mark_clause.Given as goal

abbrev pub invariant-loop-lit : goal.invariant-loop-lit
invariant-loop-lit l = AreMoreUsed l.initial.used l.used × IsClauseUsed l.used (take l.lit-index l.lits)
