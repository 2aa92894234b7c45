use Rattle.std.proofs.Common.{◌≡◌, ℕ, true, take}
use Rattle.clause_pool.specs.Literal.{complement}
use Rattle.clause_pool.specs.Clause.{has}
use Rattle.propagate.proofs.attach.other_late.Given as goal

abbrev pub invariant-loop-lit : goal.invariant-loop-lit
invariant-loop-lit l = (code : ℕ) → has (take l.lit-index l.lits) code ≡ true → (code ≡ l.left_out → ⊥) → has (take l.end l.assignment.lits) (complement code) ≡ true
