-- Codes by their places in a table, and the names at places.
--     places_of codes names      the places of the codes that the names name, in their sequence
--     name_at codes place        the name of the code at a place
--     names_at codes places      those of the codes at places
use Rattle.std.specs.Prelude.{ℕ, List, [], map, slice_index_or}
use Rattle.std.specs.List.{flat_map}
use Rattle.std.specs.Option.{option_to_list}
use Rattle.pb_base.specs.Names.{place_in}

abbrev pub places_of : List (List ℕ) → List (List ℕ) → List ℕ
places_of codes names = flat_map (λ name. option_to_list (place_in codes name)) names

abbrev pub name_at : List (List ℕ) → ℕ → List ℕ
name_at codes place = slice_index_or codes place []

abbrev pub names_at : List (List ℕ) → List ℕ → List (List ℕ)
names_at codes places = map (name_at codes) places
