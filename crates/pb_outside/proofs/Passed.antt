-- Calls that are to fail, and those whose numbers have passed.
use Rattle.std.proofs.Common.{◌≡◌, ◌≤◌, ℕ, List, [], ◌∷◌, true, false, refl, arith}
use Rattle.std.specs.Prelude.{◌==◌, nat_lt}
use Rattle.std.specs.List.{list_all, list_any}

-- what has passed has passed later too
pub passed_later : (fails : List ℕ) (now later : ℕ) → now ≤ later → list_all (λ number. nat_lt number now) fails ≡ true
    → list_all (λ number. nat_lt number later) fails ≡ true
passed_later [] now later le h = refl
passed_later (number ∷ fails) now later le h = grind (arith, passed_later fails now later le)

-- where this call is to fail, not all that are have passed
pub not_passed : (fails : List ℕ) (now : ℕ) → list_any (λ number. number == now) fails ≡ true
    → list_all (λ number. nat_lt number now) fails ≡ false
not_passed [] now h = cc
not_passed (number ∷ fails) now h = grind (arith, not_passed fails now)
