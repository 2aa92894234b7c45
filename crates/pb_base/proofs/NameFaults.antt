-- The first of some names at fault, one name further.
use Rattle.std.proofs.Common.{◌≡◌, ℕ, ◌+◌, ◌<◌, Bool, true, false, List, [], ◌∷◌, ◌++◌, Option, Some, None, length, take, drop, slice_index_or, is_none, if◌then◌else◌, sym, ◌∙◌, ap, arith, length-take}
use Rattle.std.proofs.lemmas.List.{take_more, at_drop_more}
use Rattle.std.specs.List.{list_any}
use Rattle.std.specs.Option.{option_or}
use Rattle.pb_base.specs.Names.{same_name, place_in}
use Rattle.pb_base.specs.Sets.{has}
use Rattle.pb_base.specs.NamedSet.{named, name_fault, first_fault}
use Rattle.pb_base.specs.declared.named_set.NameFault.{NameFault}
use Rattle.pb_base.specs.declared.named_set.NameFault.TheVariants.{Unknown, Repeated}
use Rattle.pb_base.proofs.NamedSets.{has-named, code_at_place}

-- the fault of a name whose code has this place, if it has one, and which stands further left or not
abbrev fault_if : Option ℕ → Bool → ℕ → Option NameFault
fault_if code repeated place = if is_none code then Some (Unknown place) else (if repeated then Some (Repeated place) else None)

-- the name of a code is at fault where the set of the names to its left has the code
known_fault : (codes left : List (List ℕ)) (name : List ℕ) (code : ℕ) (repeated : Bool) → place_in codes name ≡ Some code → has (named codes left) code ≡ repeated → name_fault codes left name ≡ fault_if (Some code) repeated (length left)
known_fault codes left name code repeated found is_repeated =
    let is_listed : list_any (same_name name) left ≡ repeated = sym (has-named codes left name code (code_at_place codes name code found)) ∙ is_repeated in
    ap (λ p. fault_if p (list_any (same_name name) left) (length left)) found
    ∙ ap (λ b. fault_if (Some code) b (length left)) is_listed

-- the first fault of the names that are left is the next one's, or that of those behind it
next_fault : (codes names : List (List ℕ)) (i : ℕ) (name : List ℕ) → i < length names → name ≡ slice_index_or names i name → first_fault codes (take i names) (drop i names) ≡ option_or (name_fault codes (take i names) name) (first_fault codes (take (i + 1) names) (drop (i + 1) names))
next_fault codes names i name in_range is_name =
    let rest : List (List ℕ) = drop (i + 1) names in
    let taken : take i names ++ name ∷ [] ≡ take (i + 1) names = ap (λ n. take i names ++ n ∷ []) is_name ∙ sym (take_more names i name in_range) in
    at_drop_more (first_fault codes (take i names)) names i name in_range
    ∙ ap (λ n. first_fault codes (take i names) (n ∷ rest)) (sym is_name)
    ∙ ap (λ left. option_or (name_fault codes (take i names) name) (first_fault codes left rest)) taken

-- a name of a code that the set has already is the first fault
pub repeated_fault : (codes names : List (List ℕ)) (i : ℕ) (name : List ℕ) (code : ℕ) → i < length names → name ≡ slice_index_or names i name → place_in codes name ≡ Some code → has (named codes (take i names)) code ≡ true → first_fault codes (take i names) (drop i names) ≡ Some (Repeated i)
repeated_fault codes names i name code in_range is_name found repeated =
    let n : length (take i names) ≡ i = grind (arith, length-take) in
    next_fault codes names i name in_range is_name
    ∙ ap (λ f. option_or f (first_fault codes (take (i + 1) names) (drop (i + 1) names))) (known_fault codes (take i names) name code true found repeated)
    ∙ ap (λ k. Some (Repeated k)) n

-- a name of another code is no fault
pub no_fault : (codes names : List (List ℕ)) (i : ℕ) (name : List ℕ) (code : ℕ) → i < length names → name ≡ slice_index_or names i name → place_in codes name ≡ Some code → has (named codes (take i names)) code ≡ false → first_fault codes (take i names) (drop i names) ≡ first_fault codes (take (i + 1) names) (drop (i + 1) names)
no_fault codes names i name code in_range is_name found fresh =
    next_fault codes names i name in_range is_name
    ∙ ap (λ f. option_or f (first_fault codes (take (i + 1) names) (drop (i + 1) names))) (known_fault codes (take i names) name code false found fresh)
