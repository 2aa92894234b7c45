-- Resolution chains: a running clause to which one pair after another is applied.
use Rattle.std.specs.Prelude.{ℕ, ◌+◌, ◌&&◌, if◌then◌else◌, List, [], ◌∷◌, ◌++◌, Option, Some, None, Result, Ok, Err, slice_get}
use Rattle.clause_pool.specs.Literal.{complement}
use Rattle.clause_pool.specs.Clause.{has, without, clause_of}
use Rattle.clause_pool.specs.declared.chain.Pair.{Pair}
use Rattle.clause_pool.specs.declared.chain.StepFault.{StepFault}
use Rattle.clause_pool.specs.declared.chain.StepFault.TheVariants.{NoSuchStep, NoPivot}

-- the running clause without the literal, joined with the other clause without its complement
abbrev pub resolved : List ℕ → ℕ → List ℕ → List ℕ
resolved running lit other = clause_of (without lit running ++ without (complement lit) other)

-- what the pair at a place makes of the running clause: both clauses must have their half of the pivot
abbrev pub step_on : List ℕ → ℕ → ℕ → Option (List ℕ) → Result (List ℕ) StepFault
step_on running place lit None = Err (NoSuchStep place)
step_on running place lit (Some other) =
    if has running lit && has other (complement lit) then Ok (resolved running lit other) else Err (NoPivot place)

-- the pairs from a place on, applied to what the pairs before them gave
abbrev pub chain_from : List (List ℕ) → ℕ → List Pair → Result (List ℕ) StepFault → Result (List ℕ) StepFault
chain_from clauses place [] before = before
chain_from clauses place (p ∷ ps) (Err fault) = Err fault
chain_from clauses place (p ∷ ps) (Ok running) =
    chain_from clauses (place + 1) ps (step_on running place p.lit (slice_get clauses p.with))

-- the clause that a chain begins with
abbrev pub started : Option (List ℕ) → Result (List ℕ) StepFault
started None = Err (NoSuchStep 0)
started (Some c) = Ok c

-- the resolvent of a chain over some clauses, or its first fault from the left; the start has place 0
abbrev pub chain : List (List ℕ) → ℕ → List Pair → Result (List ℕ) StepFault
chain clauses start pairs = chain_from clauses 1 pairs (started (slice_get clauses start))
