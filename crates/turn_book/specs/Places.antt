-- Places in a history, counted from 0.
--     at_places history places    the entries that stand there
--     Rises low high places       the places rise, from low on and below high
use Rattle.std.specs.Prelude.{ℕ, ◌+◌, ◌≤◌, List, [], ◌∷◌, ◌++◌, slice_get}
use Rattle.std.specs.Option.{option_to_list}

abbrev pub at_places : {A : Type 0} → List A → List ℕ → List A
at_places history [] = []
at_places history (n ∷ ns) = option_to_list (slice_get history n) ++ at_places history ns

abbrev pub Rises : ℕ → ℕ → List ℕ → Type 0
Rises low high [] = low ≤ high
Rises low high (n ∷ ns) = (low ≤ n) × Rises (n + 1) high ns
