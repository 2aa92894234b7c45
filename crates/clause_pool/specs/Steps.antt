-- The chains of the clauses that were derived, in their order.
use Rattle.std.specs.Prelude.{ℕ, List}
use Rattle.clause_pool.specs.declared.chain.Pair.{Pair}

pub record Steps : Type 0 where
  -- for each derived clause, the place of the clause that its chain starts with
  pub starts : List ℕ
  -- and the pairs of its chain
  pub pairs : List (List Pair)
