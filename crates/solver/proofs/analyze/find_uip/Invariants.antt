use Rattle.std.proofs.Common.{◌≡◌, ℕ, ◌*◌, List, length}
use Rattle.propagate.specs.Trail.{Trail}
use Rattle.solver.specs.declared.resolution.Resolution.{Resolution}
use Rattle.solver.specs.Marks.{IsChain, IsResolving}
use Rattle.solver.proofs.analyze.find_uip.Given as goal

pub record Kept (clauses : List (List ℕ)) (t : Trail) (r : Resolution) (place known : ℕ) : Type 0 where
  pub chain : IsChain clauses r
  pub table : length r.marks.items ≡ 2 * t.vars
  pub resolving : IsResolving t r.marks.items place known

abbrev pub invariant-loop-below : goal.invariant-loop-below
invariant-loop-below l = Kept l.pool.clauses l.engine l.resolution l.place l.known

abbrev pub decreases-loop-below : goal.decreases-loop-below
decreases-loop-below l = l.place
