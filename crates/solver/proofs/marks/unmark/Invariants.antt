use Rattle.std.proofs.Common.{take}
use Rattle.solver.specs.Marks.{IsUnmarked}
use Rattle.solver.proofs.marks.unmark.Given as goal

abbrev pub invariant-loop-lit : goal.invariant-loop-lit
invariant-loop-lit l = IsUnmarked l.initial.marks.items l.marks.items (take l.lit-index l.lits)
