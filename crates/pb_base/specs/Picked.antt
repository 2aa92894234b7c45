-- The names of the codes in a set, in the order of the book.
use Rattle.std.specs.Prelude.{◌≡◌, ℕ, ◌+◌, Bool, true, List, [], ◌∷◌, ◌++◌, if◌then◌else◌}
use Rattle.std.specs.List.{AllByRecursion, list_any}
use Rattle.pb_base.specs.Names.{same_name}
use Rattle.pb_base.specs.Sets.{has}

-- the code at a place, where the set has it
abbrev pub picked_one : List Bool → ℕ → List ℕ → List (List ℕ)
picked_one x place name = if has x place then name ∷ [] else []

-- where the first of these codes has the place i
abbrev pub picked_from : ℕ → List Bool → List (List ℕ) → List (List ℕ)
picked_from i x [] = []
picked_from i x (name ∷ names) = picked_one x i name ++ picked_from (i + 1) x names

abbrev pub picked : List (List ℕ) → List Bool → List (List ℕ)
picked codes x = picked_from 0 x codes

-- all names are those of codes
abbrev pub AreNamed : List (List ℕ) → List (List ℕ) → Type 0
AreNamed codes names = AllByRecursion (λ name. list_any (same_name name) codes ≡ true) names
