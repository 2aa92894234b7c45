use Rattle.std.proofs.Common.{drop}
use Rattle.clause_pool.specs.Marks.{AreTouched}
use Rattle.clause_pool.proofs.running.unmark_all.Given as goal

abbrev pub invariant-loop-lit : goal.invariant-loop-lit
invariant-loop-lit l = AreTouched l.marks.items (drop l.lit-index l.touched)
