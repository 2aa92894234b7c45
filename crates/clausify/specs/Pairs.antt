-- Each element of a list with each later one, ordered by the earlier and then by the later.
use Rattle.std.specs.Prelude.{List, [], ◌∷◌, ◌++◌, map}

abbrev pub pairs : {X : Type 0} → List X → List (X × X)
pairs [] = []
pairs (x ∷ xs) = map (λ y. (x, y)) xs ++ pairs xs
