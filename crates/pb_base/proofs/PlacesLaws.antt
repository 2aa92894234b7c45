-- The places of codes that names name are those of codes.
use Rattle.std.proofs.Common.{◌≡◌, ℕ, ◌<◌, List, [], ◌∷◌, ◌++◌, Option, Some, None, length, All, refl}
use Rattle.std.specs.List.{AllByRecursion}
use Rattle.std.specs.Option.{option_to_list}
use Rattle.std.proofs.lemmas.List.Elements.{All-from_recursion}
use Rattle.std.proofs.lemmas.Option.{slice_get_within}
use Rattle.pb_base.specs.Names.{place_in}
use Rattle.pb_base.specs.Places.{places_of}
use Rattle.pb_base.proofs.NamedSets.{code_at_place}

place_within : (codes : List (List ℕ)) (name : List ℕ) (rest : List ℕ) (place : Option ℕ) → place_in codes name ≡ place → AllByRecursion (λ p. p < length codes) rest
    → AllByRecursion (λ p. p < length codes) (option_to_list place ++ rest)
place_within codes name rest None is later = later
place_within codes name rest (Some p) is later = (slice_get_within codes p name (code_at_place codes name p is), later)

each_within : (codes names : List (List ℕ)) → AllByRecursion (λ p. p < length codes) (places_of codes names)
each_within codes [] = tt
each_within codes (name ∷ names) = place_within codes name (places_of codes names) (place_in codes name) refl (each_within codes names)

pub places_within : (codes names : List (List ℕ)) → All (λ place. place < length codes) (places_of codes names)
places_within codes names = All-from_recursion (λ (place : ℕ). place < length codes) (places_of codes names) (each_within codes names)
