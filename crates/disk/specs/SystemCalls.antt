-- The calls of the system on one file, as an object that makes them tells them.
--     noted          what is told after one call more
--     Ran            these calls were made, each after the one before it had gone well
--     with_opening   the calls by which a file is opened stand before those of the first change
use Rattle.std.specs.Prelude.{◌≡◌, ◌⊎◌, ℕ, Bool, List, [], ◌∷◌, ◌++◌, Option, Some, None, Result, Ok, Err, if◌then◌else◌}
use Rattle.std.specs.Option.{option_map}
use Rattle.std.specs.Global.{Vec}
use Rattle.pb_outside.specs.declared.error.OutError.{OutError}

-- one call; that of a read has the bytes that it gave
pub data Call : Type 0 where
  Open : Call
  Lock : Call
  Forget : Call
  SyncFolder : Call
  CheckName : Call
  Read : (bytes : List ℕ) → Call
  Write : (at : ℕ) (bytes : List ℕ) → Call
  SetLen : (len : ℕ) → Call
  Sync : Call

-- a call, and the error that the system answered, if it was one
pub record Answered : Type 0 where
  pub call : Call
  pub error : Option OutError

abbrev pub error_of : {T : Type 0} → Result T OutError → Option OutError
error_of (Ok done) = None
error_of (Err error) = Some error

-- the bytes that a read gave
abbrev pub given : Result (Vec ℕ) OutError → List ℕ
given (Ok bytes) = bytes.items
given (Err error) = []

-- what is told after one call more
abbrev pub noted : Call → Option OutError → Option (List Answered) → Option (List Answered)
noted call error calls = option_map (λ before. before ++ record { call = call; error = error } ∷ []) calls

-- The calls were made in this sequence, up to the first that was answered with an error, and that is the error; where
-- there is none, all of them went well.
abbrev pub Ran : List Call → Option OutError → Option (List Answered) → Option (List Answered) → Type 0
Ran [] error before after = (error ≡ None) × (after ≡ before)
Ran (call ∷ calls) error before after =
    Ran calls error (noted call None before) after
    ⊎ ((why : OutError) × (error ≡ Some why) × (after ≡ noted call (Some why) before))

-- A file is opened once. Before anything is read, it is locked and synced, and what the system has of it in memory is
-- dropped, so that a read gives what is on the disk; then its folder is synced, so that its name is on the disk too.
abbrev pub with_opening : Bool → List Call → List Call
with_opening is_open calls = if is_open then calls else Open ∷ Lock ∷ Sync ∷ Forget ∷ SyncFolder ∷ calls
