-- The variables of the codes of two books. Those of the first book come first, then one that is always true, then those of the
-- codes that only the second has, all in record order.
--     numbers_of first second     the variable of each code of the second book
--     further first second        how many codes only the second has
--     joint_codes first second    the variables of all codes, and the one that is always true
--     alone first second          the variables of the codes that only one book has
use Rattle.std.specs.Prelude.{ℕ, ◌+◌, List, [], ◌∷◌, ◌++◌, is_none, length, if◌then◌else◌}
use Rattle.std.specs.List.{filter}
use Rattle.std.specs.Option.{option_map_or}
use Rattle.pb_base.specs.Names.{place_in}

-- of codes that the first book has or lacks, where the next one that it lacks takes the variable `next`
abbrev pub numbers_from : ℕ → List (List ℕ) → List (List ℕ) → List ℕ
numbers_from next first [] = []
numbers_from next first (c ∷ cs) =
    option_map_or (λ place. place ∷ numbers_from next first cs) (place_in first c) (next ∷ numbers_from (next + 1) first cs)

abbrev pub numbers_of : List (List ℕ) → List (List ℕ) → List ℕ
numbers_of first second = numbers_from (length first + 1) first second

-- how many of these codes the first book lacks
abbrev pub further : List (List ℕ) → List (List ℕ) → ℕ
further first second = length (filter (λ c. is_none (place_in first c)) second)

abbrev pub joint_codes : List (List ℕ) → List (List ℕ) → ℕ
joint_codes first second = length first + 1 + further first second

-- the variables of these codes that the second book lacks, where the first of them has the variable i
abbrev pub missing_from : ℕ → List (List ℕ) → List (List ℕ) → List ℕ
missing_from i second [] = []
missing_from i second (c ∷ cs) = if is_none (place_in second c) then i ∷ missing_from (i + 1) second cs else missing_from (i + 1) second cs

-- the variables of these codes that the first book lacks, where the first of those takes the variable `next`
abbrev pub added_from : ℕ → List (List ℕ) → List (List ℕ) → List ℕ
added_from next first [] = []
added_from next first (c ∷ cs) = if is_none (place_in first c) then next ∷ added_from (next + 1) first cs else added_from next first cs

abbrev pub alone : List (List ℕ) → List (List ℕ) → List ℕ
alone first second = missing_from 0 second first ++ added_from (length first + 1) first second
