-- What a write of the keeper comes to.
--     IsAnswered written due given before after    how it is answered, with the counts of faults before and after it
--     IsWritten written old changed new            what it leaves
--     IsOneCall written before after               it was the only call of the keeper, with its counts of calls before and after
use Rattle.std.specs.Prelude.{◌≡◌, ◌⊎◌, ℕ, Option, Result, Err, OnOk, OnErr}
use Rattle.std.specs.Option.{option_map}
use Rattle.pb_outside.specs.Faults.{raised}
use Rattle.pb_outside.specs.declared.error.OutError.{OutError}
use Rattle.pb_outside.specs.declared.error.OutError.TheVariants as out
use Rattle.desk_words.specs.declared.reply.Reply.TheVariants as reply
use Rattle.order_desk.specs.declared.answer.Answer.{Answer}
use Rattle.order_desk.specs.declared.answer.Answer.TheVariants as answer

pub record IsAnswered (written : Result (Unit {0}) OutError) (due given : Answer) (before after : ℕ) : Type 0 where
  pub done : OnOk written (given ≡ due)
  pub memory : written ≡ Err out.Memory → given ≡ answer.Say reply.Memory
  pub failed : written ≡ Err out.Failed → given ≡ answer.Say (reply.StoreFault before after)

pub record IsWritten {A : Type 0} (written : Result (Unit {0}) OutError) (old changed new : A) : Type 0 where
  pub done : OnOk written (new ≡ changed)
  pub unchanged : OnErr written (new ≡ old)

-- where memory was wanted before the call, there was none
pub record IsOneCall {T : Type 0} (written : Result T OutError) (before after : Option ℕ) : Type 0 where
  pub made : OnOk written (after ≡ option_map raised before)
  pub failed : written ≡ Err out.Failed → after ≡ option_map raised before
  pub at_most : (after ≡ before) ⊎ (after ≡ option_map raised before)
