-- A clause in the making, as a table with a mark for each literal, by the code of the literal.
--     marked marks l             whether a literal is marked; past the table none is
--     AreTouched marks lits      every marked literal is among these
--     clause_marked marks lits   the clause of those of these literals that are marked
--     IsJoined old new c         marked is what was marked, and what a clause has
use Rattle.std.specs.Prelude.{◌≡◌, ◌||◌, ℕ, Bool, true, false, List, slice_index_or}
use Rattle.std.specs.List.{filter}
use Rattle.clause_pool.specs.Clause.{has, clause_of}

abbrev pub marked : List Bool → ℕ → Bool
marked marks l = slice_index_or marks l false

abbrev pub AreTouched : List Bool → List ℕ → Type 0
AreTouched marks lits = (l : ℕ) → marked marks l ≡ true → has lits l ≡ true

abbrev pub clause_marked : List Bool → List ℕ → List ℕ
clause_marked marks lits = clause_of (filter (λ l. marked marks l) lits)

abbrev pub IsJoined : List Bool → List Bool → List ℕ → Type 0
IsJoined old new c = (l : ℕ) → marked new l ≡ (marked old l || has c l)
