-- What a kernel is to its callers: some given clauses, and further ones, each by a resolution chain over the clauses
-- before it.
use Rattle.std.specs.Prelude.{◌≡◌, ℕ, ◌+◌, ◌<◌, List, [], ◌∷◌, ◌++◌, length, take, slice_index, slice_index_or, Result, Ok, Err}
use Rattle.std.specs.List.{AllByRecursion}
use Rattle.clause_pool.specs.Clause.{Follows}
use Rattle.clause_pool.specs.Chain.{chain}
use Rattle.clause_pool.specs.declared.chain.Pair.{Pair}
use Rattle.clause_pool.specs.declared.chain.StepFault.{StepFault}

pub record Derivation : Type 0 where
  -- how many of the clauses were given
  pub given : ℕ
  -- the given clauses, then the derived ones
  pub clauses : List (List ℕ)
  -- for each derived clause, the place of the clause that its chain starts with
  pub starts : List ℕ
  -- and the pairs of its chain
  pub pairs : List (List Pair)

-- a kernel that has derived nothing yet
abbrev pub kernel_of : List (List ℕ) → Derivation
kernel_of clauses = record { given = length clauses; clauses = clauses; starts = []; pairs = [] }

-- the kernel with one more clause, the resolvent of this chain
abbrev pub grown : Derivation → ℕ → List Pair → List ℕ → Derivation
grown k start pairs c = record {
  given = k.given;
  clauses = k.clauses ++ c ∷ [];
  starts = k.starts ++ start ∷ [];
  pairs = k.pairs ++ pairs ∷ [];
}

-- where the resolvent goes, or the chain's fault
abbrev pub placed : Result (List ℕ) StepFault → ℕ → Result ℕ StepFault
placed (Ok c) place = Ok place
placed (Err fault) place = Err fault

-- each derived clause is the resolvent of its chain over the clauses before it
pub record IsDerived (k : Derivation) : Type 0 where
  pub clauses_counted : k.given + length k.starts ≡ length k.clauses
  pub pairs_counted : length k.pairs ≡ length k.starts
  -- a chain has at least one pair
  pub pairs_there : (n : ℕ) → n < length k.starts → 0 < length (slice_index_or k.pairs n [])
  pub resolvents : (n : ℕ) → n < length k.starts → chain (take (k.given + n) k.clauses) (slice_index k.starts n) (slice_index_or k.pairs n []) ≡ Ok (slice_index_or k.clauses (k.given + n) [])

-- every clause follows from the given ones
abbrev pub AllFollow : Derivation → Type 0
AllFollow k = AllByRecursion (Follows (take k.given k.clauses)) k.clauses
