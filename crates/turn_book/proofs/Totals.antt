-- Sums over the views of all seats, and how often a number is among others.
use Rattle.std.proofs.Common.{◌≡◌, ◌≢◌, ℕ, zero, suc, ◌+◌, ◌<◌, ◌≤◌, List, [], ◌∷◌, ◌++◌, length, set, cond, ◌==◌, All, sum_by, Bool, false, refl, ap, ◌∙◌, arith, ne_eqb}
use Rattle.std.proofs.lemmas.List.Sums.{sum_by-cons, sum_by-append, sum_by_push}
use Rattle.std.proofs.lemmas.Bool.Decides.{nat_tests}
use mathlib.Core.Option.{some, some-injective}
use mathlib.Core.Logic.{dite}
use native.Mathlib.Decide.{ℕ_discrete}
use lib.ListN.{get_elem?}
use Rattle.atomic_table.proofs.Lists.{set_else}
use Rattle.turn_book.specs.History.{times, once_below, AreAllBelow}

module _ {A : Type 0} (f : A → ℕ) where
  pub sum_set : (l : List A) (i : ℕ) (a b : A) → get_elem? l i ≡ some a → sum_by f (set l i b) + f a ≡ sum_by f l + f b
  sum_set [] i a b e = absurd (cc)
  sum_set (x ∷ xs) zero a b e = let same : f x ≡ f a = ap f (some-injective x a e) in omega (arith, sum_by-cons f b xs, sum_by-cons f x xs)
  sum_set (x ∷ xs) (suc i) a b e = omega (arith, sum_by-cons f x (set xs i b), sum_by-cons f x xs, sum_set xs i a b e)

  -- a seat that keeps its part changes no sum
  pub sum_stays : (l : List A) (i : ℕ) (a b : A) → get_elem? l i ≡ some a → f b ≡ f a → sum_by f (set l i b) ≡ sum_by f l
  sum_stays l i a b e same = omega (arith, sum_set l i a b e)

  pub sum_at : (l : List A) (i : ℕ) (a : A) → get_elem? l i ≡ some a → f a ≤ sum_by f l
  sum_at [] i a e = absurd (cc)
  sum_at (x ∷ xs) zero a e = let same : f x ≡ f a = ap f (some-injective x a e) in omega (arith, sum_by-cons f x xs)
  sum_at (x ∷ xs) (suc i) a e = omega (arith, sum_by-cons f x xs, sum_at xs i a e)

  pub sum_two : (l : List A) (i j : ℕ) (a b : A) → i ≢ j → get_elem? l i ≡ some a → get_elem? l j ≡ some b → f a + f b ≤ sum_by f l
  sum_two [] i j a b n p q = absurd (cc)
  sum_two (x ∷ xs) zero zero a b n p q = absurd (n refl)
  sum_two (x ∷ xs) zero (suc j) a b n p q = let same : f x ≡ f a = ap f (some-injective x a p) in omega (arith, sum_by-cons f x xs, sum_at xs j b q)
  sum_two (x ∷ xs) (suc i) zero a b n p q = let same : f x ≡ f b = ap f (some-injective x b q) in omega (arith, sum_by-cons f x xs, sum_at xs i a p)
  sum_two (x ∷ xs) (suc i) (suc j) a b n p q = omega (arith, sum_by-cons f x xs, sum_two xs i j a b (λ e. n (ap suc e)) p q)

  sum_none : (l : List A) → ((j : ℕ) (b : A) → get_elem? l j ≡ some b → f b ≡ 0) → sum_by f l ≡ 0
  sum_none [] zeros = refl
  sum_none (x ∷ xs) zeros = let here : f x ≡ 0 = zeros 0 x refl in omega (arith, sum_by-cons f x xs, sum_none xs (λ j b e. zeros (suc j) b e))

  -- where the others add nothing
  pub sum_alone : (l : List A) (i : ℕ) (a : A) → get_elem? l i ≡ some a → ((j : ℕ) (b : A) → j ≢ i → get_elem? l j ≡ some b → f b ≡ 0) → sum_by f l ≡ f a
  sum_alone [] i a e zeros = absurd (cc)
  sum_alone (x ∷ xs) zero a e zeros = let same : f x ≡ f a = ap f (some-injective x a e) in
      omega (arith, sum_by-cons f x xs, sum_none xs (λ j b at. zeros (suc j) b (λ h. omega arith) at))
  sum_alone (x ∷ xs) (suc i) a e zeros = let here : f x ≡ 0 = zeros 0 x (λ h. omega arith) refl in
      omega (arith, sum_by-cons f x xs, sum_alone xs i a e (λ j b other at. zeros (suc j) b (λ h. other (omega arith)) at))

  -- one part goes to another seat, which takes its place
  pub sum_join : (l : List A) (i j : ℕ) (a b both gone : A) → j ≢ i → get_elem? l i ≡ some a → get_elem? l j ≡ some b → f both ≡ f a + f b → f gone ≡ 0
      → sum_by f (set (set l i both) j gone) ≡ sum_by f l
  sum_join l i j a b both gone other p q joined none_left =
      omega (arith, sum_set l i a both p, sum_set (set l i both) j b gone (set_else l i j both other ∙ q))

-- a place that is taken is in the list
pub at_inside : {A : Type 0} (l : List A) (i : ℕ) (a : A) → get_elem? l i ≡ some a → i < length l
at_inside [] i a e = absurd (cc)
at_inside (x ∷ xs) zero a e = omega arith
at_inside (x ∷ xs) (suc i) a e = omega (arith, at_inside xs i a e)

pub times_push : (x n : ℕ) (xs : List ℕ) → times x (xs ++ n ∷ []) ≡ times x xs + cond (n == x) 1 0
times_push x n xs = sum_by_push (λ y. cond (y == x) 1 0) xs n

pub times_append : (x : ℕ) (xs ys : List ℕ) → times x (xs ++ ys) ≡ times x xs + times x ys
times_append x xs ys = sum_by-append (λ y. cond (y == x) 1 0) xs ys

times_cons : (x y : ℕ) (xs : List ℕ) → times x (y ∷ xs) ≡ cond (y == x) 1 0 + times x xs
times_cons x y xs = sum_by-cons (λ z. cond (z == x) 1 0) y xs

pub once_more : (x n : ℕ) → once_below x (n + 1) ≡ once_below x n + cond (n == x) 1 0
once_more x n = grind (arith, nat_tests)

-- a number among those below n is below n
pub times_inside : (x n : ℕ) (xs : List ℕ) → All (λ y. y < n) xs → 0 < times x xs → x < n
times_inside x n [] all some_there = absurd (omega arith)
times_inside x n (y ∷ ys) all some_there =
    dite (ℕ_discrete y x)
    (λ same. let here : y < n = all 0 0 (omega arith) in omega arith)
    (λ other. let no : (y == x) ≡ false = ne_eqb y x other in
    let gone : cond {A = ℕ} (y == x) 1 0 ≡ 0 = ap (λ (b : Bool). cond {A = ℕ} b 1 0) no in
    times_inside x n ys (λ k d l. all (suc k) d (omega arith)) (omega (arith, times_cons x y ys)))

-- numbers below n of which each number below m is one: m is at most n
pub covers : (m n : ℕ) (xs : List ℕ) → AreAllBelow m xs → All (λ y. y < n) xs → m ≤ n
covers zero n xs each inside = omega arith
covers (suc m) n xs each inside = let here : times m xs ≡ once_below m (suc m) = each m in let once : once_below m (suc m) ≡ 1 = grind (arith, nat_tests) in let below : m < n = times_inside m n xs inside (omega arith) in omega arith
