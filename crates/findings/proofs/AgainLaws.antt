-- A kernel over the clauses of a slice that derived further ones.
use Rattle.std.proofs.Common.{◌≡◌, ℕ, List, sym, subst}
use Rattle.clause_pool.specs.Clause.{AreBelow}
use Rattle.clause_pool.specs.Derivation.{Derivation, kernel_of}
use Rattle.derivation.specs.Showing.{StandsOver}
use Rattle.chains.specs.Growth.{Grows}
use Rattle.findings.proofs.SliceLaws.{stands_over, over_kernel}

-- over the same given clauses
pub over_grown : (clauses : List (List ℕ)) (fresh now : Derivation) → fresh ≡ kernel_of clauses → Grows fresh now → StandsOver clauses now
over_grown clauses fresh now is more = stands_over clauses fresh now (over_kernel clauses fresh is) more.extends

pub below_grown : (bound : ℕ) (clauses : List (List ℕ)) (fresh now : Derivation) → fresh ≡ kernel_of clauses → AreBelow bound clauses → Grows fresh now → AreBelow bound now.clauses
below_grown bound clauses fresh now is below more =
    more.bounds bound (subst (λ (k : Derivation). AreBelow bound k.clauses) (sym is) below)
