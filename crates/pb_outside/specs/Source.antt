-- What a source tells, and what a read gives of the bytes that are left.
use Rattle.std.specs.Prelude.{◌≡◌, ℕ, ◌+◌, ◌≤◌, List, [], ◌++◌, Option, None, Some, IfSome, false, length, take, drop}
use Rattle.pb_outside.specs.Faults.{Faults}

-- the bytes that reads will give from here on, where the source tells them, and its faults
pub record SourceTold : Type 0 where
  pub left : Option (List ℕ)
  pub faults : Faults

-- of an object that is no source
abbrev pub no_input : SourceTold
no_input = record { left = None; faults = record { count = 0; faultless = false } }

-- some bytes, so many, were appended
pub record Appends (count : ℕ) (into into' : List ℕ) : Type 0 where
  pub front : take (length into) into' ≡ into
  pub len : length into' ≡ length into + count

-- the next bytes of what is left were given, so many, and none only at the end
pub record GivesNext (count : ℕ) (bytes : List ℕ) (left' : Option (List ℕ)) (into into' : List ℕ) : Type 0 where
  pub given : into' ≡ into ++ take count bytes
  pub rest : left' ≡ Some (drop count bytes)
  pub within : count ≤ length bytes
  pub end_only : count ≡ 0 → bytes ≡ []

-- that, where the source tells what is left
abbrev pub ReadsPiece : ℕ → Option (List ℕ) → Option (List ℕ) → List ℕ → List ℕ → Type 0
ReadsPiece count left left' into into' = IfSome left (λ bytes. GivesNext count bytes left' into into')

-- all of what is left was given, or as much of it as the limit allows, and the rest is left
abbrev pub ReadsUpTo : ℕ → Option (List ℕ) → Option (List ℕ) → List ℕ → Type 0
ReadsUpTo limit left left' bytes = IfSome left (λ all. (bytes ≡ take limit all) × (left' ≡ Some (drop limit all)))

-- only a front of what was left is gone, which is no longer than the limit
abbrev pub LosesFront : ℕ → Option (List ℕ) → Option (List ℕ) → Type 0
LosesFront limit left left' = IfSome left (λ all. (count : ℕ) × (count ≤ limit) × (left' ≡ Some (drop count all)))
