-- Lists that lie one after another in one flat list, of which the places where they start are kept.
use Rattle.std.specs.Prelude.{ℕ, ◌≤◌, List, [], ◌∷◌, length, slice_range}

-- where the first list ends: at the start of the next, or at the end of the items
abbrev pub first_or : List ℕ → ℕ → ℕ
first_or [] end = end
first_or (s ∷ ss) end = s

-- the lists that begin at the starts, each up to the next
abbrev pub region : {X : Type 0} → List ℕ → List X → List (List X)
region [] items = []
region (s ∷ ss) items = slice_range items s (first_or ss (length items)) ∷ region ss items

-- the starts do not fall, and stay within the items
abbrev pub IsRegion : List ℕ → ℕ → Type 0
IsRegion [] end = Unit {0}
IsRegion (s ∷ ss) end = (s ≤ first_or ss end) × IsRegion ss end
