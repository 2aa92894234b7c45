-- A text kept in a longer array, with zeros behind it.
use Rattle.std.specs.Prelude.{◌≡◌, ℕ, ◌-◌, ◌≤◌, List, ◌++◌, length, take, drop, replicate}
use Rattle.std.proofs.Common.{arith, take-append-drop, length-take-le}

pub length_back : (max len : ℕ) (bytes : List ℕ) → len ≤ max → length bytes ≡ max → length (take len bytes) ≡ len
length_back max len bytes within full = length-take-le len bytes (omega (arith))

pub bytes_back : (max len : ℕ) (bytes : List ℕ) → len ≤ max → length bytes ≡ max → drop len bytes ≡ replicate (max - len) 0
    → take len bytes ++ replicate (max - length (take len bytes)) 0 ≡ bytes
bytes_back max len bytes within full zeros =
    rw (length_back max len bytes within full, ← zeros) (take-append-drop len bytes)
