-- A run that served its link.
use Rattle.std.proofs.Common.{sym, subst}
use Rattle.pb_outside.specs.Faults.{Faults, IsLater}
use Rattle.order_desk.specs.Tables.{State}
use Rattle.session.specs.declared.end.SessionEnd.{SessionEnd}
use Rattle.desk_run.specs.DeskRun.{DeskOutside, IsServed, IsStarted, ServesLink}
use Rattle.session.proofs.Faults.{later_twice}
use Rattle.desk_run.proofs.Faults.{reaches_later}

pub is_served : (old : State) (end : SessionEnd) (before after : DeskOutside) → IsStarted before old → ServesLink old end before.link after
    → IsServed end before after
is_served old end before after started served = record {
  old = old;
  started = started;
  served = served;
  later = later_twice before.faults old.faults after.faults started.later
      (subst (λ (f : Faults). IsLater old.faults f) (sym served.faults) (reaches_later old served.new.state served.reaches));
}
