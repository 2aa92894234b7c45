-- The set of the codes that some names name.
--     named codes names               a code is in the set where it is named
--     first_fault codes left names    the first of the names at fault, where these stand to their left
--     set_of_names codes names        the set, unless a name is at fault
use Rattle.std.specs.Prelude.{ℕ, Bool, List, [], ◌∷◌, ◌++◌, Option, Some, None, Result, Ok, is_none, length, map, if◌then◌else◌}
use Rattle.std.specs.List.{list_any}
use Rattle.std.specs.Option.{option_or}
use Rattle.pb_base.specs.Names.{same_name, place_in}
use Rattle.pb_base.specs.Results.{unless}
use Rattle.pb_base.specs.declared.named_set.NameFault.{NameFault}
use Rattle.pb_base.specs.declared.named_set.NameFault.TheVariants.{Unknown, Repeated}

abbrev pub named : List (List ℕ) → List (List ℕ) → List Bool
named codes names = map (λ code. list_any (same_name code) names) codes

-- a name is at fault where it is no code, or stands further left already; its place is counted from 0
abbrev pub name_fault : List (List ℕ) → List (List ℕ) → List ℕ → Option NameFault
name_fault codes left name =
    if is_none (place_in codes name) then Some (Unknown (length left))
    else (if list_any (same_name name) left then Some (Repeated (length left)) else None)

abbrev pub first_fault : List (List ℕ) → List (List ℕ) → List (List ℕ) → Option NameFault
first_fault codes left [] = None
first_fault codes left (name ∷ names) = option_or (name_fault codes left name) (first_fault codes (left ++ name ∷ []) names)

abbrev pub set_of_names : List (List ℕ) → List (List ℕ) → Result (List Bool) NameFault
set_of_names codes names = unless (first_fault codes [] names) (Ok (named codes names))

-- the place of the name at fault
abbrev pub place_of_fault : NameFault → ℕ
place_of_fault (Unknown place) = place
place_of_fault (Repeated place) = place
