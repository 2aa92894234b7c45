-- What a contract sees of a disk that is a file of the system.
use Rattle.std.specs.Prelude.{ℕ, Bool}

-- what makes its calls, whether the file is open, and how often a call has failed
pub record Holding (C : Type 0) : Type 0 where
  pub calls : C
  pub is_open : Bool
  pub faults : ℕ
