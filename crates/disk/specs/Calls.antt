-- How a disk in memory keeps its calls: the bytes of all writes stand one behind the other.
use Rattle.std.specs.Prelude.{ℕ, ◌+◌, List, [], ◌∷◌, take, drop}
use Rattle.disk.specs.declared.memory_disk.Call.{Call}
use Rattle.disk.specs.declared.memory_disk.Call.TheVariants as call
use Rattle.disk.specs.Tape.{Done, Wrote, TriedWrite, Cut, TriedCut, Synced, TriedSync}

abbrev pub dones : List Call → List ℕ → List Done
dones [] bytes = []
dones (call.Wrote at len ∷ calls) bytes = Wrote at (take len bytes) ∷ dones calls (drop len bytes)
dones (call.TriedWrite at len ∷ calls) bytes = TriedWrite at len ∷ dones calls bytes
dones (call.Cut len ∷ calls) bytes = Cut len ∷ dones calls bytes
dones (call.TriedCut len ∷ calls) bytes = TriedCut len ∷ dones calls bytes
dones (call.Synced ∷ calls) bytes = Synced ∷ dones calls bytes
dones (call.TriedSync ∷ calls) bytes = TriedSync ∷ dones calls bytes

-- how many bytes the writes take
abbrev pub total : List Call → ℕ
total [] = 0
total (call.Wrote at len ∷ calls) = len + total calls
total (call.TriedWrite at len ∷ calls) = total calls
total (call.Cut len ∷ calls) = total calls
total (call.TriedCut len ∷ calls) = total calls
total (call.Synced ∷ calls) = total calls
total (call.TriedSync ∷ calls) = total calls

-- a call that changes no byte of the file
abbrev pub IsQuiet : Call → Type 0
IsQuiet (call.Wrote at len) = ⊥
IsQuiet (call.TriedWrite at len) = Unit {0}
IsQuiet (call.Cut len) = ⊥
IsQuiet (call.TriedCut len) = Unit {0}
IsQuiet call.Synced = Unit {0}
IsQuiet call.TriedSync = Unit {0}

-- what such a call came to
abbrev pub quiet : Call → Done
quiet (call.Wrote at len) = Wrote at []
quiet (call.TriedWrite at len) = TriedWrite at len
quiet (call.Cut len) = Cut len
quiet (call.TriedCut len) = TriedCut len
quiet call.Synced = Synced
quiet call.TriedSync = TriedSync
