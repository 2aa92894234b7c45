-- What a pool is to its callers: its clauses in the order in which they were added, and the room that it has beside
-- them, for so many further clauses and for so many further literals.
use Rattle.std.specs.Prelude.{ℕ, List}

pub record PoolContents : Type 0 where
  pub clauses : List (List ℕ)
  pub spare_clauses : ℕ
  pub spare_lits : ℕ
