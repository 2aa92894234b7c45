-- Numbers that grow with their digits.
use Rattle.std.proofs.Common.{◌≡◌, ◌<◌, ◌≤◌, ◌+◌, ◌-◌, ◌*◌, ℕ, Bool, cond, List, [], ◌∷◌, ap, arith}
use Rattle.std.specs.Prelude.{Some, None}
use Rattle.std.proofs.lemmas.Bool.{lt-ltb}
use Rattle.pb_base.specs.Digits.{value_from, value_of}
use Rattle.http_wire.specs.Number.{number_up_to}

-- more digits make no smaller number
value_grows : (front : ℕ) (digits : List ℕ) → front ≤ value_from front digits
value_grows front [] = omega arith
value_grows front (digit ∷ digits) = let later = value_grows (10 * front + (digit - 48)) digits in omega (arith, later)

-- a number that is too large stays so
pub too_large : (limit value : ℕ) (digits rest : List ℕ) → limit < value → value_from value rest ≡ value_of digits → number_up_to limit digits ≡ None
too_large limit value digits rest above whole =
    ap (λ (t : Bool). cond t None (Some (value_of digits))) (lt-ltb limit (value_of digits) (omega (arith, value_grows value rest, whole)))
