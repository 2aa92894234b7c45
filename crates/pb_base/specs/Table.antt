-- What adding a name to a table answers.
use Rattle.std.specs.Prelude.{◌≡◌, ℕ, Bool, List, [], ◌∷◌, ◌++◌, Result, Ok, Err, Some, None, length, position}
use Rattle.pb_base.specs.declared.answer.Fail.{Fail}
use Rattle.pb_base.specs.declared.answer.Fail.TheVariants.{Refused, Memory}
use Rattle.pb_base.specs.Names.{same_name}

-- the new name goes last and has the next place; a name that is there is refused with its place; want of memory changes nothing
abbrev pub Adds : {N : Type 0} → (N → N → Bool) → List N → N → List N → Result ℕ (Fail ℕ) → Type 0
Adds eq old name new (Ok place) = (position (eq name) old ≡ None) × (place ≡ length old) × (new ≡ old ++ name ∷ [])
Adds eq old name new (Err (Refused place)) = (position (eq name) old ≡ Some place) × (new ≡ old)
Adds eq old name new (Err Memory) = (position (eq name) old ≡ None) × (new ≡ old)

-- the same of a name's bytes
abbrev pub AddsName : List (List ℕ) → List ℕ → List (List ℕ) → Result ℕ (Fail ℕ) → Type 0
AddsName = Adds same_name
