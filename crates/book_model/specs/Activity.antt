-- A record is active from its first day to its last, both inclusive.
use Rattle.std.specs.Prelude.{ℕ, Bool, ◌&&◌, nat_le}

abbrev pub is_within : ℕ → ℕ → ℕ → Bool
is_within from until day = nat_le from day && nat_le day until
