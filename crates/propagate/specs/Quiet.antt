-- A quiet set of literals: it has no variable twice, and no clause has anything to say to it.
--     Quiet clauses lits     no clause is false, and where all literals but one are false, that one is true
use Rattle.std.specs.Prelude.{◌≡◌, ℕ, true, List}
use Rattle.std.specs.List.{AllByRecursion}
use Rattle.clause_pool.specs.Literal.{complement}
use Rattle.clause_pool.specs.Clause.{has}
use Rattle.propagate.specs.Trail.{AllFalse, OthersFalse}

abbrev pub IsConsistent : List ℕ → Type 0
IsConsistent lits = (l : ℕ) → has lits l ≡ true → has lits (complement l) ≡ true → ⊥

pub record IsQuietFor (lits c : List ℕ) : Type 0 where
  pub not_false : AllFalse lits c → ⊥
  pub unit_true : (x : ℕ) → has c x ≡ true → OthersFalse lits c x → has lits x ≡ true

pub record Quiet (clauses : List (List ℕ)) (lits : List ℕ) : Type 0 where
  pub consistent : IsConsistent lits
  pub each : AllByRecursion (IsQuietFor lits) clauses
