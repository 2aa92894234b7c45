use Rattle.std.proofs.Common.{◌+◌, ◌-◌, ◌≤◌, take, length, vec_len, vec_capacity}
use Rattle.clause_pool.specs.Marks.{AreTouched}
use Rattle.solver.specs.Marks.{IsMarked}
use Rattle.solver.proofs.marks.mark.Given as goal

abbrev pub invariant-loop-lit : goal.invariant-loop-lit
invariant-loop-lit l = record {
  is_marked : IsMarked l.initial.marks.items l.marks.items (take l.lit-index l.lits);
  touched : AreTouched l.marks.items l.touched.items;
  room : vec_len l.touched + (length l.lits - l.lit-index) ≤ vec_capacity l.touched;
}
