-- A keeper in memory.
use Rattle.std.specs.Prelude.{◌≡◌, ◌↔◌, IsTrue, Result, Err}
use Rattle.pb_outside.specs.FaultPlan.{Plan, is_to_fail, after_call}
use Rattle.pb_outside.specs.declared.error.OutError.{OutError}
use Rattle.pb_outside.specs.declared.error.OutError.TheVariants.{Failed}
use Rattle.keeper.specs.Rows.{Kept}

-- the rows, and the calls that are to fail
pub record Store : Type 0 where
  pub rows : Kept
  pub plan : Plan

-- a call that fails exactly where it is to fail
pub record GoesByPlan {T : Type 0} (result : Result T OutError) (before after : Plan) : Type 0 where
  pub fails : (result ≡ Err Failed) ↔ IsTrue (is_to_fail before)
  pub next : after ≡ after_call before
