-- What the words of a judging of kept orders ask for.
use Rattle.std.specs.Prelude.{ℕ, List}

-- the store, the number of the book, and how many workers judge
pub record Rejudging : Type 0 where
  pub store : List ℕ
  pub book : ℕ
  pub workers : ℕ
