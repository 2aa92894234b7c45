use Rattle.std.proofs.Common.{◌≡◌, ◌∷◌, ◌++◌, drop, map}
use Rattle.clause_pool.specs.Literal.{complement}
use Rattle.supplement_findings.proofs.goals.complements.Given as goal

abbrev pub invariant-loop-lit : goal.invariant-loop-lit
invariant-loop-lit l = l.all.items ++ map complement (drop l.lit-index l.lits) ≡ l.fn.first ∷ map complement l.lits
