use Rattle.std.proofs.Common.{◌+◌, ◌-◌, ◌≤◌, take, length, vec_len, vec_capacity}
use Rattle.clause_pool.specs.Marks.{AreTouched, IsJoined}
use Rattle.clause_pool.proofs.running.put_all.Given as goal

abbrev pub invariant-loop-lit : goal.invariant-loop-lit
invariant-loop-lit l = record {
  touched : AreTouched l.marks.items l.touched.items;
  joined : IsJoined l.initial.marks.items l.marks.items (take l.lit-index l.lits);
  room : vec_len l.touched + (length l.lits - l.lit-index) ≤ vec_capacity l.touched;
}
