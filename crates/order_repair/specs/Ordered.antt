-- Codes that may be ordered together, by their places.
use Rattle.std.specs.Prelude.{◌≡◌, ℕ, ◌<◌, ◌==◌, true, List, All, length}
use Rattle.std.specs.List.{IsDistinct}
use Rattle.book_model.specs.Activity.{is_within}
use Rattle.book_model.specs.Contents.{Contents}

-- the day is in the term, and they are codes of the book, none twice
pub record AreOrdered (b : Contents) (day : ℕ) (places : List ℕ) : Type 0 where
  pub in_term : is_within b.first b.last day ≡ true
  pub within : All (λ place. place < length b.codes) places
  pub distinct : IsDistinct (λ p q. p == q) places
