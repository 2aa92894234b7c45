use Rattle.std.proofs.Common.{◌≡◌, ℕ, true, take}
use Rattle.clause_pool.specs.Literal.{complement}
use Rattle.clause_pool.specs.Clause.{has}
use Rattle.propagate.proofs.visit.other_open.Given as goal

abbrev pub invariant-loop-code : goal.invariant-loop-code
invariant-loop-code l = (code : ℕ) → has (take l.code-index l.codes) code ≡ true → (code ≡ l.left_out → ⊥) → has l.assignment.lits (complement code) ≡ true
