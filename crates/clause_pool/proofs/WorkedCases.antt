-- The definitions at worked cases.
use Rattle.std.proofs.Common.{◌≡◌, ℕ, List, [], ◌∷◌, Ok, Err, refl}
use Rattle.clause_pool.specs.Clause.{clause_of}
use Rattle.clause_pool.specs.Chain.{chain}
use Rattle.clause_pool.specs.declared.chain.StepFault.TheVariants.{NoSuchStep, NoPivot}

-- a literal twice is held once, and a literal and its complement both stay
a_set_in_order : clause_of (10 ∷ 1 ∷ 10 ∷ 0 ∷ 1 ∷ []) ≡ 0 ∷ 1 ∷ 10 ∷ []
a_set_in_order = refl

abbrev small : List (List ℕ)
small = (1 ∷ 3 ∷ []) ∷ (0 ∷ 19 ∷ []) ∷ (2 ∷ 19 ∷ []) ∷ []

two_pairs : chain small 0 (record { lit = 1; with = 1 } ∷ record { lit = 3; with = 2 } ∷ []) ≡ Ok (19 ∷ [])
two_pairs = refl

no_such_step : chain small 0 (record { lit = 1; with = 1 } ∷ record { lit = 3; with = 3 } ∷ []) ≡ Err (NoSuchStep 2)
no_such_step = refl

no_such_start : chain small 3 (record { lit = 1; with = 1 } ∷ []) ≡ Err (NoSuchStep 0)
no_such_start = refl

-- the running clause has the literal no more
no_pivot_here : chain small 0 (record { lit = 1; with = 1 } ∷ record { lit = 1; with = 1 } ∷ []) ≡ Err (NoPivot 2)
no_pivot_here = refl

-- the other clause lacks the complement
no_pivot_there : chain small 0 (record { lit = 1; with = 2 } ∷ []) ≡ Err (NoPivot 1)
no_pivot_there = refl
