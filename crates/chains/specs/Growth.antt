-- What a kernel comes to by further chains, and what refutes a goal.
--     given_of k                 the clauses that the kernel was given
--     Extends old new            further clauses were derived, and nothing else changed
--     Grows old new              the same, with each bound on the literals kept
--     resolvent_of pairs r       the resolvent of a chain of these pairs, whose result is r
--     IsDerivedBy old new start pairs c place
--                                a chain's resolvent was derived, if there is one, and stands at a place
--     Refutes g c                a clause has no literal but the complement of g
--     ClosedAt clauses g at      the clause at this place refutes g
use Rattle.std.specs.Prelude.{◌≡◌, ℕ, true, List, [], ◌∷◌, ◌++◌, Option, Some, None, Result, Ok, Err, length, take, slice_get}
use Rattle.clause_pool.specs.Literal.{complement}
use Rattle.clause_pool.specs.Clause.{has, KeepsBounds}
use Rattle.clause_pool.specs.Derivation.{Derivation, grown}
use Rattle.clause_pool.specs.declared.chain.Pair.{Pair}
use Rattle.clause_pool.specs.declared.chain.StepFault.{StepFault}

abbrev pub given_of : Derivation → List (List ℕ)
given_of k = take k.given k.clauses

pub record Extends (old new : Derivation) : Type 0 where
  pub same_number : new.given ≡ old.given
  pub same_given : given_of new ≡ given_of old
  pub more : List (List ℕ)
  pub clauses : new.clauses ≡ old.clauses ++ more

pub record Grows (old new : Derivation) : Type 0 where
  pub extends : Extends old new
  pub bounds : KeepsBounds old.clauses new.clauses

-- unless the chain has none or is a clause alone
abbrev pub resolvent_of : List Pair → Result (List ℕ) StepFault → Option (List ℕ)
resolvent_of [] r = None
resolvent_of (p ∷ ps) (Ok c) = Some c
resolvent_of (p ∷ ps) (Err fault) = None

-- a derivation with one more clause, or the same, and where that clause stands
abbrev pub IsDerivedBy : Derivation → Derivation → ℕ → List Pair → Option (List ℕ) → Option ℕ → Type 0
IsDerivedBy old new start pairs (Some c) place = (new ≡ grown old start pairs c) × (place ≡ Some (length old.clauses))
IsDerivedBy old new start pairs None place = (new ≡ old) × (place ≡ None)

abbrev pub Refutes : ℕ → List ℕ → Type 0
Refutes g c = (l : ℕ) → has c l ≡ true → l ≡ complement g

pub record ClosedAt (clauses : List (List ℕ)) (g at : ℕ) : Type 0 where
  pub clause : List ℕ
  pub there : slice_get clauses at ≡ Some clause
  pub refutes : Refutes g clause
