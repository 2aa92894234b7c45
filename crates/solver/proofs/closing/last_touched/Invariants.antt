use Rattle.std.proofs.Common.{take}
use Rattle.solver.proofs.TouchLaws.{IsLatest}
use Rattle.solver.proofs.closing.last_touched.Given as goal

abbrev pub invariant-loop-lit : goal.invariant-loop-lit
invariant-loop-lit l = IsLatest l.engine.lits l.marks (take l.lit-index l.touched) l.end l.behind
