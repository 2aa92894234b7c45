-- What the clauses of a position take: so many clauses more, and so many variables.
use Rattle.std.specs.Prelude.{◌≡◌, ℕ, ◌+◌, List, [], ◌∷◌, ◌++◌}
use Rattle.book_compare.specs.Keys.{KeyLiterals, key_clauses, key_variables, keys_clauses, keys_variables, position_clauses, ways}
use Rattle.book_compare.specs.Together.{position_variables, together_clauses, together_variables}
use Rattle.book_compare.specs.declared.position.Asking.{Asking}

pub record Takes (old new : Asking) (more : List (List ℕ)) (taken : ℕ) : Type 0 where
  pub clauses : new.pool.clauses ≡ old.pool.clauses ++ more
  pub next : new.next ≡ old.next + taken
  pub ways : new.ways.items ≡ old.ways.items

abbrev pub key_of : List ℕ → List ℕ → KeyLiterals
key_of first second = record { first = first; second = second }

-- the clauses, the variables and the ways of several keys
pub record TakesKeys (n : ℕ) (old new : Asking) (ks : List KeyLiterals) : Type 0 where
  pub clauses : new.pool.clauses ≡ old.pool.clauses ++ keys_clauses n old.next ks
  pub next : new.next ≡ old.next + keys_variables ks
  pub ways : new.ways.items ≡ old.ways.items ++ ways old.next ks

-- and of one
pub record TakesKey (n : ℕ) (old new : Asking) (k : KeyLiterals) : Type 0 where
  pub clauses : new.pool.clauses ≡ old.pool.clauses ++ key_clauses n old.next k
  pub next : new.next ≡ old.next + key_variables k
  pub ways : new.ways.items ≡ old.ways.items ++ ways old.next (k ∷ [])

-- all clauses and variables of a position
pub record TakesPosition (n : ℕ) (old new : Asking) (ks : List KeyLiterals) : Type 0 where
  pub clauses : new.pool.clauses ≡ old.pool.clauses ++ position_clauses n old.next ks
  pub next : new.next ≡ old.next + position_variables ks

-- the same of several positions
pub record TakesPositions (n : ℕ) (old new : Asking) (kss : List (List KeyLiterals)) : Type 0 where
  pub clauses : new.pool.clauses ≡ old.pool.clauses ++ together_clauses n old.next kss
  pub next : new.next ≡ old.next + together_variables kss
