use Rattle.std.proofs.Common.{◌≡◌, ℕ, ◌*◌, ◌≤◌, List, length, take}
use Rattle.propagate.specs.Trail.{Trail}
use Rattle.solver.specs.declared.resolution.Resolution.{Resolution}
use Rattle.solver.specs.Marks.{IsChain, AreFalseOrBlamed}
use Rattle.solver.proofs.closing.resolve_all.Given as goal

pub record Kept (clauses : List (List ℕ)) (t : Trail) (r : Resolution) (end : ℕ) (assumptions : List ℕ) : Type 0 where
  pub chain : IsChain clauses r
  pub table : length r.marks.items ≡ 2 * t.vars
  pub others_false : AreFalseOrBlamed (take end t.lits) r.marks.items assumptions
  pub within : end ≤ length t.lits

abbrev pub invariant-loop-place : goal.invariant-loop-place
invariant-loop-place l = Kept l.pool.clauses l.engine l.resolution l.end l.fn.assumptions

abbrev pub decreases-loop-place : goal.decreases-loop-place
decreases-loop-place l = l.end
