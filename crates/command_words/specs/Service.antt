-- What the words of a service ask for.
use Rattle.std.specs.Prelude.{ℕ, List}

-- the store, the port of the machine, how many workers serve, and after how many links the desk ends
pub record Service : Type 0 where
  pub store : List ℕ
  pub port : ℕ
  pub workers : ℕ
  pub links : ℕ
