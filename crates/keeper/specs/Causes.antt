-- What a call does to the count of faults.
use Rattle.std.specs.Prelude.{◌≡◌, Result, Err, OnOk}
use Rattle.pb_outside.specs.Faults.{Faults, Fails, IsLater}
use Rattle.pb_outside.specs.declared.error.OutError.{OutError}
use Rattle.pb_outside.specs.declared.error.OutError.TheVariants.{Failed}

-- a call that succeeds counts nothing, and one that fails has its cause in the count
pub record HasCause {T : Type 0} (result : Result T OutError) (before after : Faults) : Type 0 where
  pub stays : OnOk result (after.count ≡ before.count)
  pub cause : result ≡ Err Failed → Fails before after
  pub later : IsLater before after
