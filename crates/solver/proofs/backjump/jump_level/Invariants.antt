use Rattle.std.proofs.Common.{take}
use Rattle.solver.specs.Search.{IsJump}
use Rattle.solver.proofs.backjump.jump_level.Given as goal

abbrev pub invariant-loop-lit : goal.invariant-loop-lit
invariant-loop-lit l = IsJump l.engine (take l.lit-index l.lits) l.forced l.jump
