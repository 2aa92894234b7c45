-- Codes that stay in an order, and those that go or come, by their places in the book.
--     left_out chosen kept       of chosen codes those that aren't kept
--     others_of x kept           the codes of a set that aren't among some, in record order
use Rattle.std.specs.Prelude.{ℕ, suc, ◌==◌, ◌&&◌, Bool, not, List, [], ◌∷◌, filter, if◌then◌else◌}
use Rattle.std.specs.List.{list_any}

abbrev pub is_kept : List ℕ → ℕ → Bool
is_kept kept code = list_any (λ k. k == code) kept

abbrev pub left_out : List ℕ → List ℕ → List ℕ
left_out chosen kept = filter (λ code. not (is_kept kept code)) chosen

-- the same of the codes of which the first has the place i
abbrev pub others_from : ℕ → List Bool → List ℕ → List ℕ
others_from i [] kept = []
others_from i (there ∷ x) kept = if there && not (is_kept kept i) then i ∷ others_from (suc i) x kept else others_from (suc i) x kept

abbrev pub others_of : List Bool → List ℕ → List ℕ
others_of x kept = others_from 0 x kept
