-- The orders, of the draws behind those of the book: a day, and then of each group one of its codes, or none of them.
--     order_at groups x          the order of a book of so many groups, where the state is x
--     behind_order groups x      the state behind its draws
use Rattle.std.specs.Prelude.{ℕ, zero, suc, ◌+◌, List, [], ◌∷◌, nat_lt, if◌then◌else◌}
use Rattle.desk_words.specs.declared.order_words.OrderWords.{OrderWords}
use Rattle.book_sample.specs.Draws.{stepped, drawn}
use Rattle.book_sample.specs.Names.{code_name, place}

-- the code k of a group before the others, where it is one of four
abbrev pub pick_then : ℕ → ℕ → List (List ℕ) → List (List ℕ)
pick_then j k others = if nat_lt k 4 then code_name (place j k) ∷ others else others

unfoldable pub picks : ℕ → ℕ → ℕ → List (List ℕ)
picks zero j x = []
picks (suc n) j x = pick_then j (drawn (stepped x) 5) (picks n (suc j) (stepped x))

unfoldable pub behind_picks : ℕ → ℕ → ℕ
behind_picks zero x = x
behind_picks (suc n) x = behind_picks n (stepped x)

abbrev pub order_at : ℕ → ℕ → OrderWords
order_at groups x = record { book = 1; day = 1 + drawn (stepped x) 1000; codes = picks groups 0 (stepped x) }

abbrev pub behind_order : ℕ → ℕ → ℕ
behind_order groups x = behind_picks groups (stepped x)

-- what a sampler has before it: so many groups in each order, and the state of the draws
pub record Stream : Type 0 where
  pub groups : ℕ
  pub state : ℕ
