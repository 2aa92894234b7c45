-- One history of the calls of a machine.
use Rattle.std.specs.Prelude.{◌≡◌, ℕ, List, [], ◌∷◌, ◌++◌, length, nat_lt, if◌then◌else◌, count_by, ◌==◌}
use Rattle.turn_book.specs.declared.entry.Entry.{Entry}

module _ {M C R : Type 0} where
  abbrev pub entry : C → R → M → Entry M C R
  entry call reply after = record { call = call; reply = reply; after = after }

  -- the machine after the whole list
  abbrev pub end_of : M → List (Entry M C R) → M
  end_of x [] = x
  end_of x (e ∷ es) = end_of e.after es

  abbrev pub StartsWith : List (Entry M C R) → List (Entry M C R) → Type 0
  StartsWith log seen = (later : List (Entry M C R)) × (log ≡ seen ++ later)

  -- the longer of two lists, the first where they are equally long
  abbrev pub longer : List (Entry M C R) → List (Entry M C R) → List (Entry M C R)
  longer xs ys = if nat_lt (length xs) (length ys) then ys else xs

  abbrev pub shorter : List (Entry M C R) → List (Entry M C R) → List (Entry M C R)
  shorter xs ys = if nat_lt (length xs) (length ys) then xs else ys

  -- the list begins with all that was seen, and ends with this call and its reply
  abbrev pub AddsCall : List (Entry M C R) → C → R → List (Entry M C R) → Type 0
  AddsCall seen call reply log =
      (between : List (Entry M C R)) × (after : M) × (log ≡ (seen ++ between) ++ entry call reply after ∷ [])

  module _ (fits : M → C → Type 0) (legal : M → C → R → M → Type 0) where
    -- each call fits the machine as it then is, and its reply is that of a legal step
    abbrev pub IsHistory : M → List (Entry M C R) → Type 0
    IsHistory x [] = Unit {0}
    IsHistory x (e ∷ es) = fits x e.call × legal x e.call e.reply e.after × IsHistory e.after es

    -- the same, from a valid machine
    abbrev pub IsRun : (M → Type 0) → M → List (Entry M C R) → Type 0
    IsRun valid x log = valid x × IsHistory x log

-- how often the number is among these
abbrev pub times : ℕ → List ℕ → ℕ
times x xs = count_by (λ y. y == x) xs

abbrev pub once_below : ℕ → ℕ → ℕ
once_below x n = if nat_lt x n then 1 else 0

-- the numbers below n, each once, and no others
abbrev pub AreAllBelow : ℕ → List ℕ → Type 0
AreAllBelow n xs = (x : ℕ) → times x xs ≡ once_below x n
