-- At most one value, as it is told.
use Rattle.std.specs.Prelude.{◌≡◌, ◌≤◌, ℕ, List, [], ◌∷◌, length}
use Rattle.http_wire.specs.declared.few.Few.{Few}
use Rattle.http_wire.specs.declared.few.Few.TheVariants.{None as Nothing, One, More}

abbrev pub IsFew : List (List ℕ) → Few → Type 0
IsFew values Nothing = values ≡ []
IsFew values (One value) = values ≡ value.now ∷ []
IsFew values More = 2 ≤ length values
