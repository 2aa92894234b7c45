-- What a sink tells, and what a write does to the bytes that were taken.
use Rattle.std.specs.Prelude.{◌≡◌, ℕ, ◌-◌, ◌<◌, ◌≤◌, List, ◌++◌, Option, None, Some, IfSome, length, take}
use Rattle.pb_outside.specs.Faults.{Rose}

-- the bytes that were taken so far and how many more are sure to be taken, where the sink tells them, and how often
-- writing has failed
pub record SinkTold : Type 0 where
  pub taken : Option (List ℕ)
  pub room : Option ℕ
  pub faults : ℕ

-- of an object that is no sink
abbrev pub no_output : SinkTold
no_output = record { taken = None; room = None; faults = 0 }

-- the whole piece was taken, where the sink tells what it took
abbrev pub TakesPiece : List ℕ → Option (List ℕ) → Option (List ℕ) → Type 0
TakesPiece piece taken taken' = IfSome taken (λ bytes. taken' ≡ Some (bytes ++ piece))

-- some front of the piece was taken, where the sink tells what it took
abbrev pub TakesFront : List ℕ → Option (List ℕ) → Option (List ℕ) → Type 0
TakesFront piece taken taken' = IfSome taken (λ bytes. (count : ℕ) × (taken' ≡ Some (bytes ++ take count piece)))

-- a write that took its piece
pub record Takes (piece : List ℕ) (before after : SinkTold) : Type 0 where
  pub text : TakesPiece piece before.taken after.taken
  pub room : IfSome before.room (λ bytes. after.room ≡ Some (bytes - length piece))
  pub count : after.faults ≡ before.faults

-- a write that failed: it took a front of its piece, for which there was no sure room
pub record Refuses (piece : List ℕ) (before after : SinkTold) : Type 0 where
  pub rose : Rose before.faults after.faults
  pub front : TakesFront piece before.taken after.taken
  pub no_room : IfSome before.room (λ bytes. bytes < length piece)
  pub never_falls : before.faults ≤ after.faults
