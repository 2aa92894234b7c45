-- A literal is a variable or its negation. Contracts see it as its code: twice the variable, plus one if it is
-- negative. So the order by code is the order by variable, the positive literal first.
use Rattle.std.specs.Prelude.{ℕ, ◌+◌, ◌-◌, ◌*◌, ◌/◌, ◌%◌, ◌==◌, Bool, not, if◌then◌else◌}

-- the literal of a variable, positive or negative
abbrev pub literal : ℕ → Bool → ℕ
literal var positive = 2 * var + (if positive then 0 else 1)

-- the other literal of the same variable
abbrev pub complement : ℕ → ℕ
complement l = if l % 2 == 0 then l + 1 else l - 1

-- whether a literal is true under an assignment of the variables
abbrev pub is_true : (ℕ → Bool) → ℕ → Bool
is_true a l = if l % 2 == 0 then a (l / 2) else not (a (l / 2))
