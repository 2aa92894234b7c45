use Rattle.std.proofs.Common.{◌≡◌, ℕ, true, take}
use Rattle.clause_pool.specs.Literal.{complement}
use Rattle.clause_pool.specs.Clause.{has}
use Rattle.propagate.proofs.attach.first_open.Given as goal

abbrev pub invariant-loop-lit : goal.invariant-loop-lit
invariant-loop-lit l = (code : ℕ) → has (take l.lit-index l.lits) code ≡ true → has l.assignment.lits (complement code) ≡ true
