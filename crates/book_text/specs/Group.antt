-- The codes of a group, as its text names them.
--     names_in text             the names, parted by one `/` each
--     are_codes_behind ..       each of the names may follow those before it
--     is_group text             2 to 64 distinct codes
use Rattle.std.specs.Prelude.{ℕ, Bool, true, not, ◌&&◌, List, [], ◌∷◌, ◌++◌, length, nat_le, nat_eq}
use Rattle.std.specs.List.{slice_split, list_any}
use Rattle.pb_base.specs.Names.{is_code_name, same_name}
use Rattle.pb_base.specs.declared.limits.TheConstants.{LEAST_GROUP_CODES, MOST_GROUP_CODES}

abbrev pub slash : ℕ
slash = 47

abbrev pub names_in : List ℕ → List (List ℕ)
names_in text = slice_split (λ b. nat_eq b slash) text

-- whether a name is a code's, and stands not among those before it
abbrev pub may_follow : List (List ℕ) → List ℕ → Bool
may_follow before name = is_code_name name && not (list_any (same_name name) before)

abbrev pub are_codes_behind : List (List ℕ) → List (List ℕ) → Bool
are_codes_behind before [] = true
are_codes_behind before (name ∷ names) = may_follow before name && are_codes_behind (before ++ name ∷ []) names

abbrev pub are_group : List (List ℕ) → Bool
are_group names = nat_le LEAST_GROUP_CODES (length names) && nat_le (length names) MOST_GROUP_CODES && are_codes_behind [] names

abbrev pub is_group : List ℕ → Bool
is_group text = are_group (names_in text)
