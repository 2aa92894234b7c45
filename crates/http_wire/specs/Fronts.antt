-- What is known of the front of a stream once it is found.
use Rattle.std.specs.Prelude.{◌≡◌, ℕ, ◌+◌, ◌≤◌, List, length, ⊤}
use Rattle.http_wire.specs.Front.{front}
use Rattle.http_wire.specs.declared.front.Front.{Front}
use Rattle.http_wire.specs.declared.front.Front.TheVariants.{End, Bad, Block}

-- this stands at the front of the stream, which stays
abbrev pub HasFront : Front → List ℕ → List ℕ → Type 0
HasFront found s s' = (front s ≡ found) × (s' ≡ s)

-- a head that was found is held whole
abbrev pub IsHeld : List ℕ → Front → Type 0
IsHeld held End = ⊤
IsHeld held (Bad refusal) = ⊤
IsHeld held (Block skipped n) = skipped + n ≤ length held
