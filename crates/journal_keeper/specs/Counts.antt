-- How a keeper counts: the faults of its disk, and the puts that it refused.
use Rattle.std.specs.Prelude.{◌≡◌, ◌⊎◌, ℕ, ◌+◌, min, Bool, true, false, Result, Err, OnOk}
use Rattle.pb_outside.specs.Faults.{Faults, Rose, raised}
use Rattle.pb_outside.specs.declared.error.OutError.{OutError}
use Rattle.pb_outside.specs.declared.error.OutError.TheVariants.{Failed}

-- both together, as far as 64 bits go; a keeper over a disk never says that no call fails from here on
abbrev pub count_of : ℕ → ℕ → Faults
count_of faults refusals = record { count = min (faults + refusals) 18446744073709551615; faultless = false }

-- A put fails only where the disk has failed in it or the put is one that is refused, and a refused put is none that
-- succeeds. Only a refused put is counted as one.
pub record Refuses {T : Type 0} (result : Result T OutError) (refused : Bool) (faults faults' refusals refusals' : ℕ) : Type 0 where
  pub cause : result ≡ Err Failed → Rose faults faults' ⊎ (refused ≡ true)
  pub made : OnOk result (refused ≡ false)
  pub counted : (refusals' ≡ refusals) ⊎ ((refused ≡ true) × (refusals' ≡ raised refusals))
