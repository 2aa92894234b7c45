-- A list in parts: one part for each of some things, in order.
use Rattle.std.specs.Prelude.{◌≡◌, List, [], ◌∷◌, ◌++◌}

abbrev pub InParts : {X N : Type 0} → (X → List N → Type 0) → List X → List N → Type 0
InParts IsPart [] notes = notes ≡ []
InParts {X} {N} IsPart (x ∷ xs) notes =
    (own : List N) × (later : List N) × (notes ≡ own ++ later) × IsPart x own × InParts IsPart xs later
