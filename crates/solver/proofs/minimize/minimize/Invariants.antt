use Rattle.std.proofs.Common.{◌≡◌, ℕ, ◌*◌, List, length}
use Rattle.propagate.specs.Trail.{Trail}
use Rattle.solver.specs.declared.resolution.Resolution.{Resolution}
use Rattle.solver.specs.Marks.{IsChain, IsUip}
use Rattle.solver.proofs.minimize.minimize.Given as goal

pub record Kept (clauses : List (List ℕ)) (t : Trail) (r : Resolution) (uip : ℕ) : Type 0 where
  pub chain : IsChain clauses r
  pub table : length r.marks.items ≡ 2 * t.vars
  pub is_uip : IsUip t r.marks.items uip

abbrev pub invariant-loop : goal.invariant-loop
invariant-loop l = Kept l.pool.clauses l.engine l.resolution l.uip
