-- What stands at places of a history, as it grows.
use Rattle.std.proofs.Common.{◌≡◌, ◌+◌, ◌<◌, ◌≤◌, ◌∙◌, ℕ, zero, suc, List, [], ◌∷◌, ◌++◌, length, Option, Some, refl, sym, ap, append_assoc, length-append, arith}
use Rattle.std.specs.Prelude.{slice_get}
use Rattle.std.specs.Option.{option_to_list}
use Rattle.turn_book.specs.Places.{at_places, Rises}

pub rises_wider : (low low' high high' : ℕ) (ns : List ℕ) → low' ≤ low → high ≤ high' → Rises low high ns → Rises low' high' ns
rises_wider low low' high high' [] below above rises = omega (arith, rises)
rises_wider low low' high high' (n ∷ ns) below above rises =
    (omega (arith, rises.0), rises_wider (n + 1) (n + 1) high high' ns (omega arith) above rises.1)

-- a place behind all that may be there
pub rises_push : (low n : ℕ) (ns : List ℕ) → Rises low n ns → Rises low (n + 1) (ns ++ n ∷ [])
rises_push low n [] rises = (rises, omega arith)
rises_push low n (m ∷ ns) rises = (rises.0, rises_push (m + 1) n ns rises.1)

pub rises_low : (low high : ℕ) (ns : List ℕ) → Rises low high ns → low ≤ high
rises_low low high [] rises = rises
rises_low low high (n ∷ ns) rises = let rest = rises_low (n + 1) high ns rises.1 in omega (arith, rises.0)

module _ {A : Type 0} where
  pub at_places_append : (history : List A) (ms ns : List ℕ) → at_places history (ms ++ ns) ≡ at_places history ms ++ at_places history ns
  at_places_append history [] ns = refl
  at_places_append history (m ∷ ms) ns =
      ap (λ (l : List A). option_to_list (slice_get history m) ++ l) (at_places_append history ms ns)
      ∙ sym (append_assoc (option_to_list (slice_get history m)) (at_places history ms) (at_places history ns))

  get_front : (xs ys : List A) (n : ℕ) → n < length xs → slice_get (xs ++ ys) n ≡ slice_get xs n
  get_front [] ys n inside = absurd (omega arith)
  get_front (x ∷ xs) ys zero inside = refl
  get_front (x ∷ xs) ys (suc n) inside = get_front xs ys n (omega arith)

  get_last : (xs : List A) (y : A) → slice_get (xs ++ y ∷ []) (length xs) ≡ Some y
  get_last [] y = refl
  get_last (x ∷ xs) y = get_last xs y

  get_one : (xs : List A) (n : ℕ) → n < length xs → length (option_to_list (slice_get xs n)) ≡ 1
  get_one [] n inside = absurd (omega arith)
  get_one (x ∷ xs) zero inside = refl
  get_one (x ∷ xs) (suc n) inside = get_one xs n (omega arith)

  -- the last entry stands at the length of what is before it
  pub at_last : (xs : List A) (y : A) → at_places (xs ++ y ∷ []) (length xs ∷ []) ≡ y ∷ []
  at_last xs y = ap (λ (o : Option A). option_to_list o ++ []) (get_last xs y)

  pub length_at_places : (low : ℕ) (xs : List A) (ns : List ℕ) → Rises low (length xs) ns → length (at_places xs ns) ≡ length ns
  length_at_places low xs [] rises = refl
  length_at_places low xs (n ∷ ns) rises =
      let inside : n < length xs = (let rest = rises_low (n + 1) (length xs) ns rises.1 in omega arith) in
      omega (arith, length-append (option_to_list (slice_get xs n)) (at_places xs ns), get_one xs n inside, length_at_places (n + 1) xs ns rises.1)

  -- what stands there stays as the history grows
  pub at_places_longer : (low : ℕ) (xs ys : List A) (ns : List ℕ) → Rises low (length xs) ns → at_places (xs ++ ys) ns ≡ at_places xs ns
  at_places_longer low xs ys [] rises = refl
  at_places_longer low xs ys (n ∷ ns) rises =
      let inside : n < length xs = (let rest = rises_low (n + 1) (length xs) ns rises.1 in omega arith) in
      ap (λ (o : Option A). option_to_list o ++ at_places (xs ++ ys) ns) (get_front xs ys n inside)
      ∙ ap (λ (l : List A). option_to_list (slice_get xs n) ++ l) (at_places_longer (n + 1) xs ys ns rises.1)
