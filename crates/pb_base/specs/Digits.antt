-- Numbers of a few digits. Leading zeros are accepted.
--     number_within most text    the number that 1 to `most` digits write
--     short_number text          the number that 1 to 5 digits write
use Rattle.std.specs.Prelude.{ℕ, ◌+◌, ◌*◌, ◌-◌, Bool, ◌&&◌, List, [], ◌∷◌, length, Option, Some, None, nat_le, if◌then◌else◌}
use Rattle.std.specs.List.{list_all}

abbrev pub is_digit : ℕ → Bool
is_digit b = nat_le 48 b && nat_le b 57

abbrev pub is_number : ℕ → List ℕ → Bool
is_number most text = nat_le 1 (length text) && nat_le (length text) most && list_all is_digit text

-- the value of the digits behind those whose value is `front`
abbrev pub value_from : ℕ → List ℕ → ℕ
value_from front [] = front
value_from front (digit ∷ digits) = value_from (10 * front + (digit - 48)) digits

abbrev pub value_of : List ℕ → ℕ
value_of text = value_from 0 text

abbrev pub number_within : ℕ → List ℕ → Option ℕ
number_within most text = if is_number most text then Some (value_of text) else None

abbrev pub short_number : List ℕ → Option ℕ
short_number = number_within 5
