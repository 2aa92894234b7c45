-- What a step comes to: calls of the keeper, and rows.
use Rattle.std.proofs.Common.{◌≡◌, ◌⊎◌, inl, inr, Option, None, Some, ap, ◌∙◌}
use Rattle.std.specs.Prelude.{IfSome}
use Rattle.keeper.specs.Rows.{Kept}
use Rattle.order_desk.specs.Effect.{Effect, says, shows, keeps}
use Rattle.order_desk.specs.Step.{Follows, IsKept, IsNotKept, Step}
use Rattle.order_desk.specs.Tables.{State}
use Rattle.order_desk.specs.declared.answer.Answer.{Answer}
use Rattle.order_desk.specs.declared.event.Event.{Event}
use Rattle.desk_guards.specs.Steps.{IsOneCallAtMost}

called : (u : Effect) (old new : State) (given : Answer) → Follows u old given new → IsOneCallAtMost old.calls new.calls
called (says due) old new given f = inl (ap (λ (s : State). s.calls) f.1)
called (shows due) old new given f = inl (ap (λ (s : State). s.calls) f.1)
called (keeps due tables) old new given f = by f.1
  where
    by : (IsKept due tables old given new ⊎ IsNotKept old given new) → IsOneCallAtMost old.calls new.calls
    by (inl kept) = inr kept.once
    by (inr not_kept) = not_kept.at_most_once

pub one_call : (old new : State) (e : Event) (given : Answer) → Step old e given new → IsOneCallAtMost old.calls new.calls
one_call old new e given step = called _ old new given step

pub some_same : (o : Option Kept) (later same : Kept) → later ≡ same → IfSome o (λ rows. rows ≡ later) → IfSome o (λ rows. rows ≡ same)
some_same None later same is h = h
some_same (Some rows) later same is h = h ∙ is
