-- What follows from a row of tests, and what refutes it.
use Rattle.std.proofs.Common.{◌≡◌, ℕ, zero, suc, Bool, true, false, ◌&&◌, List, [], ◌∷◌, Some, refl}
use Rattle.std.specs.Prelude.{slice_get}
use Rattle.std.specs.List.{AllByRecursion}

pub left_of : (x y : Bool) → (x && y) ≡ true → x ≡ true
left_of true y h = refl
left_of false y h = cc

pub right_of : (x y : Bool) → (x && y) ≡ true → y ≡ true
right_of true y h = h
right_of false y h = cc

pub both_of : (x y : Bool) → x ≡ true → y ≡ true → (x && y) ≡ true
both_of x y xs ys = cc

pub not_left : (x y : Bool) → x ≡ false → (x && y) ≡ false
not_left x y h = cc

pub not_right : (x y : Bool) → y ≡ false → (x && y) ≡ false
not_right true y h = h
not_right false y h = refl

-- tests that are made from the left
abbrev pub all_of : Bool → List Bool → Bool
all_of passed [] = passed
all_of passed (test ∷ tests) = all_of (passed && test) tests

pub each_of : (passed : Bool) (tests : List Bool) → all_of passed tests ≡ true → (passed ≡ true) × AllByRecursion (λ test. test ≡ true) tests
each_of passed [] all = (all, tt)
each_of passed (test ∷ tests) all =
    let each = each_of (passed && test) tests all in
    (left_of passed test each.0, (right_of passed test each.0, each.1))

pub none_after : (passed : Bool) (tests : List Bool) → passed ≡ false → all_of passed tests ≡ false
none_after passed [] fails = fails
none_after passed (test ∷ tests) fails = none_after (passed && test) tests (not_left passed test fails)

pub one_fails : (passed : Bool) (tests : List Bool) (place : ℕ) → slice_get tests place ≡ Some false → all_of passed tests ≡ false
one_fails passed [] place fails = cc
one_fails passed (test ∷ tests) zero fails = let fails : test ≡ false = cc in none_after (passed && test) tests (not_right passed test fails)
one_fails passed (test ∷ tests) (suc place) fails = one_fails (passed && test) tests place fails
