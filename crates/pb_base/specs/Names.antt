-- Names are their bytes.
--     is_name bs         1 to 8 bytes of A to Z and 0 to 9
--     is_code_name bs    a name other than TRUE and FALSE
--     is_part bs         1 to 16 bytes of A to Z and 0 to 9
--     place_in ns b      the place of the name b among ns, counted from 0
use Rattle.std.specs.Prelude.{ℕ, Bool, not, ◌&&◌, ◌||◌, List, [], ◌∷◌, Option, nat_le, nat_eq, length, position}
use Rattle.std.specs.List.{list_all}
use Rattle.std.specs.Cmp.Lexicographic.{pointwise}

-- whether two names are the same
abbrev pub same_name : List ℕ → List ℕ → Bool
same_name = pointwise nat_eq

abbrev pub is_name_byte : ℕ → Bool
is_name_byte b = (nat_le 65 b && nat_le b 90) || (nat_le 48 b && nat_le b 57)

-- whether the bytes are 1 to `longest` bytes of A to Z and 0 to 9
abbrev pub is_word : ℕ → List ℕ → Bool
is_word longest bytes = nat_le 1 (length bytes) && nat_le (length bytes) longest && list_all is_name_byte bytes

abbrev pub is_name : List ℕ → Bool
is_name = is_word 8

abbrev pub is_part : List ℕ → Bool
is_part = is_word 16

-- the words of a rule that are no codes
abbrev pub true_word : List ℕ
true_word = 84 ∷ 82 ∷ 85 ∷ 69 ∷ []

abbrev pub false_word : List ℕ
false_word = 70 ∷ 65 ∷ 76 ∷ 83 ∷ 69 ∷ []

abbrev pub is_code_name : List ℕ → Bool
is_code_name bytes = is_name bytes && not (same_name bytes true_word) && not (same_name bytes false_word)

abbrev pub place_in : List (List ℕ) → List ℕ → Option ℕ
place_in names name = position (same_name name) names
