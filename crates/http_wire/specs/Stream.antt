-- A stream is what a wire holds and what is left of its source.
use Rattle.std.specs.Prelude.{◌≡◌, ℕ, List, ◌++◌, Option, IfSome, IsSomeAnd}
use Rattle.pb_outside.specs.Faults.{Faults, Fails}
use Rattle.http_wire.specs.declared.fault.ReadFault.{ReadFault}

-- where the source tells what is left, the stream before and the one after are in this relation
abbrev pub StreamStep : (List ℕ → List ℕ → Type 0) → List ℕ → Option (List ℕ) → List ℕ → Option (List ℕ) → Type 0
StreamStep R held left held' left' = IfSome left (λ rest. IsSomeAnd left' (λ rest'. R (held ++ rest) (held' ++ rest')))

abbrev pub SameStream : List ℕ → List ℕ → Type 0
SameStream s s' = s' ≡ s

-- a read failed: both counts are told, and the count rose
pub record ReadFails (before after : Faults) (fault : ReadFault) : Type 0 where
  pub count_before : fault.before ≡ before.count
  pub count_after : fault.after ≡ after.count
  pub fails : Fails before after
