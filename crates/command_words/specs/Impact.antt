-- What the words of a judging by a book that is a file ask for.
use Rattle.std.specs.Prelude.{ℕ, List}

-- the store, the file that is the book's text, and how many workers judge
pub record Impact : Type 0 where
  pub store : List ℕ
  pub file : List ℕ
  pub workers : ℕ
