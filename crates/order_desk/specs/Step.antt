-- One step of the desk: an event, its answer, and the states before and after it.
--     Follows u old answer new    the answer and the new state are those of what an event does
--     Step old e answer new       what the event e does, over the old state
-- What want of memory and a fault of the store may do is said here alone. Both change nothing but the counts of the keeper. An
-- answer that takes no memory is never want of it, and a store fault comes only where a write failed and the count rose. A step
-- makes at most one call of its keeper: one that writes makes the write alone, and every other makes none.
use Rattle.std.specs.Prelude.{◌≡◌, ◌⊎◌}
use Rattle.std.specs.Option.{option_map}
use Rattle.pb_outside.specs.Faults.{Fails, IsLater, raised}
use Rattle.desk_words.specs.declared.reply.Reply.TheVariants as reply
use Rattle.order_desk.specs.declared.answer.Answer.{Answer}
use Rattle.order_desk.specs.declared.answer.Answer.TheVariants as answer
use Rattle.order_desk.specs.declared.event.Event.{Event}
use Rattle.order_desk.specs.Tables.{Tables, State}
use Rattle.order_desk.specs.Effect.{Effect, says, shows, keeps, effect}

-- the answer, memory allowing
abbrev pub IsOrMemory : Answer → Answer → Type 0
IsOrMemory due given = (given ≡ due) ⊎ (given ≡ answer.Say reply.Memory)

-- just one call of the keeper was made
abbrev pub CallsOnce : State → State → Type 0
CallsOnce old new = new.calls ≡ option_map raised old.calls

-- the keeper's write failed, which was its only call, and the answer has its counts of faults before and after
pub record IsStoreFault (old : State) (given : Answer) (new : State) : Type 0 where
  pub said : given ≡ answer.Say (reply.StoreFault old.faults.count new.faults.count)
  pub fails : Fails old.faults new.faults
  pub once : CallsOnce old new

-- the write was made, as the only call of the keeper: no fault is counted
pub record IsKept (due : Answer) (tables : Tables) (old : State) (given : Answer) (new : State) : Type 0 where
  pub said : given ≡ due
  pub changed : new.tables ≡ tables
  pub count : new.faults.count ≡ old.faults.count
  pub once : CallsOnce old new

-- it was not made: it failed, or memory was wanted in it or before it
pub record IsNotKept (old : State) (given : Answer) (new : State) : Type 0 where
  pub said : (given ≡ answer.Say reply.Memory) ⊎ IsStoreFault old given new
  pub unchanged : new.tables ≡ old.tables
  pub at_most_once : (new.calls ≡ old.calls) ⊎ CallsOnce old new

-- the same of a step that writes nothing
abbrev pub Shows : Effect → Answer → Type 0
Shows (says due) given = given ≡ due
Shows (shows due) given = IsOrMemory due given
Shows (keeps due tables) given = ⊥

abbrev pub Follows : Effect → State → Answer → State → Type 0
Follows (says due) old given new = (given ≡ due) × (new ≡ old)
Follows (shows due) old given new = IsOrMemory due given × (new ≡ old)
Follows (keeps due tables) old given new =
    IsLater old.faults new.faults × (IsKept due tables old given new ⊎ IsNotKept old given new)

abbrev pub Step : State → Event → Answer → State → Type 0
Step old event given new = Follows (effect old.tables event) old given new
