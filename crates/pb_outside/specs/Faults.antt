-- The counts of faults: numbers of 64 bits that never fall.
use Rattle.std.specs.Prelude.{◌≡◌, ◌⊎◌, ℕ, ◌+◌, ◌<◌, ◌≤◌, min, Bool, true, false}

-- one more, as far as 64 bits go
abbrev pub raised : ℕ → ℕ
raised n = min (n + 1) 18446744073709551615

-- a count rose in a call: it is greater afterwards, or it stands at its last value
abbrev pub Rose : ℕ → ℕ → Type 0
Rose before after = (before < after) ⊎ (after ≡ 18446744073709551615)

-- how often an object has failed so far, and whether it says that no call on it fails from here on
pub record Faults : Type 0 where
  pub count : ℕ
  pub faultless : Bool

-- a call failed: the count rose, and the object had not ruled that out
pub record Fails (before after : Faults) : Type 0 where
  pub rose : Rose before.count after.count
  pub possible : before.faultless ≡ false

-- some calls were made: no count fell, and what was ruled out still is
pub record IsLater (before after : Faults) : Type 0 where
  pub never_falls : before.count ≤ after.count
  pub kept : before.faultless ≡ true → after.faultless ≡ true
