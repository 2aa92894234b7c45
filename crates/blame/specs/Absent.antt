-- Codes that stand in no clause, and clauses that say that they are absent.
--     absent_clause c       the code is absent
--     are_absent us x       a set has none of these codes
--     is_used used v        the variable is marked, or has no mark
--     IsClauseUsed used c   each variable of the clause is used; AreUsed: of each clause of a list
--     AreUnused used us     these have a mark, and aren't used
--     IsDenied n old new    behind the clauses of an encoder it is said that some of the first n codes are absent, which stand in none of them
use Rattle.std.specs.Prelude.{◌≡◌, ℕ, ◌<◌, ◌/◌, Bool, true, false, not, List, [], ◌∷◌, length, map, get_or, slice_index_or, All}
use Rattle.std.specs.List.{list_all}
use Rattle.pb_base.specs.Sets.{has}
use Rattle.clause_pool.specs.Literal.{literal}
use Rattle.clause_pool.specs.Clause.{clause_of, has as has_literal}
use Rattle.clausify.specs.Encoding.{EncodesAlone}
use Rattle.clausify.specs.declared.encoder.Encoder.{Encoder}

abbrev pub absent_clause : ℕ → List ℕ
absent_clause c = clause_of (literal c false ∷ [])

abbrev pub are_absent : List ℕ → List Bool → Bool
are_absent us x = list_all (λ c. not (has x c)) us

abbrev pub is_used : List Bool → ℕ → Bool
is_used used v = get_or used v true

abbrev pub IsClauseUsed : List Bool → List ℕ → Type 0
IsClauseUsed used c = (l : ℕ) → has_literal c l ≡ true → is_used used (l / 2) ≡ true

abbrev pub AreUsed : List Bool → List (List ℕ) → Type 0
AreUsed used cs = (k : ℕ) → k < length cs → IsClauseUsed used (slice_index_or cs k [])

-- no fewer are used
pub record AreMoreUsed (old new : List Bool) : Type 0 where
  pub counted : length new ≡ length old
  pub more : (v : ℕ) → is_used old v ≡ true → is_used new v ≡ true

pub record IsUnused (used : List Bool) (c : ℕ) : Type 0 where
  pub inside : c < length used
  pub unused : is_used used c ≡ false

abbrev pub AreUnused : List Bool → List ℕ → Type 0
AreUnused used us = All (IsUnused used) us

pub record IsDenied (n : ℕ) (old new : Encoder) : Type 0 where
  pub used : List Bool
  pub counted : length used ≡ n
  pub stands : AreUsed used old.pool.clauses
  pub unused : List ℕ
  pub free : AreUnused used unused
  pub made : EncodesAlone old new (map absent_clause unused)
