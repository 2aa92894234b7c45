-- The size of a generated book.
use Rattle.std.specs.Prelude.{◌≡◌, ℕ, ◌%◌, ◌≤◌}

-- the start of the draws, the number of codes, and how many orders are judged
pub record Size : Type 0 where
  pub start : ℕ
  pub codes : ℕ
  pub orders : ℕ

-- a multiple of 4 from 8 to 2,000
pub record IsSampleCodes (codes : ℕ) : Type 0 where
  pub whole : codes % 4 ≡ 0
  pub least : 8 ≤ codes
  pub most : codes ≤ 2000
