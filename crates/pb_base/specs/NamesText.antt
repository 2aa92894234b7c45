-- The names of the codes in a set, as they stand in a text.
use Rattle.std.specs.Prelude.{ℕ, ◌+◌, Bool, List, [], ◌∷◌, ◌++◌, if◌then◌else◌}
use Rattle.pb_base.specs.Sets.{has}

-- a name behind a space, where the set has the code at its place
abbrev pub named : List Bool → ℕ → List ℕ → List ℕ
named x place name = if has x place then 32 ∷ name else []

-- the same of all codes, where the first name has the place i
abbrev pub names_from : ℕ → List Bool → List (List ℕ) → List ℕ
names_from i x [] = []
names_from i x (name ∷ names) = named x i name ++ names_from (i + 1) x names
