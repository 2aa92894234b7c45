-- A number that is kept while it is small.
use Rattle.std.specs.Prelude.{ℕ, List, nat_lt, Option, Some, None, if◌then◌else◌}
use Rattle.pb_base.specs.Digits.{value_of}

-- the number that the digits write, unless it is above the limit
abbrev pub number_up_to : ℕ → List ℕ → Option ℕ
number_up_to limit digits = if nat_lt limit (value_of digits) then None else Some (value_of digits)
