use Rattle.std.proofs.Common.{◌≡◌, ◌⊎◌, ℕ, ◌+◌, ◌*◌, ◌<◌, true}
use Rattle.clause_pool.specs.Clause.{has}
use Rattle.solver.proofs.order.first_open.Given as goal

abbrev pub invariant-loop-var : goal.invariant-loop-var
invariant-loop-var l = (v : ℕ) → v < l.var → (has l.engine.lits (2 * v) ≡ true) ⊎ (has l.engine.lits (2 * v + 1) ≡ true)
