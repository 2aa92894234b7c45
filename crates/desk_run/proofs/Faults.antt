-- The faults of a desk's keeper, along its steps.
use Rattle.std.proofs.Common.{List, [], ◌∷◌, sym, subst, arith}
use Rattle.pb_outside.specs.Faults.{Faults, IsLater}
use Rattle.turn_book.specs.History.{end_of}
use Rattle.turn_book.specs.declared.entry.Entry.{Entry}
use Rattle.session.proofs.Faults.{later_twice}
use Rattle.order_desk.specs.declared.answer.Answer.{Answer}
use Rattle.order_desk.specs.declared.event.Event.{Event}
use Rattle.order_desk.specs.Effect.{Effect, says, shows, keeps, effect}
use Rattle.order_desk.specs.History.{IsLegal, Reaches}
use Rattle.order_desk.specs.Step.{Follows}
use Rattle.order_desk.specs.Tables.{State}

later_same : (f : Faults) → IsLater f f
later_same f = record { never_falls = omega arith; kept = λ faultless. faultless }

follows_later : (u : Effect) (old : State) (given : Answer) (new : State) → Follows u old given new → IsLater old.faults new.faults
follows_later (says due) old given new f = subst (λ (s : State). IsLater old.faults s.faults) (sym f.1) (later_same old.faults)
follows_later (shows due) old given new f = subst (λ (s : State). IsLater old.faults s.faults) (sym f.1) (later_same old.faults)
follows_later (keeps due tables) old given new f = f.0

history_later : (start : State) (history : List (Entry State Event Answer)) → IsLegal start history → IsLater start.faults (end_of start history).faults
history_later start [] legal = later_same start.faults
history_later start (e ∷ es) legal =
    later_twice start.faults e.after.faults (end_of e.after es).faults
    (follows_later (effect start.tables e.call) start e.reply e.after legal.1) (history_later e.after es legal.2)

-- no step lowers the count, and what was ruled out still is
pub reaches_later : (old new : State) → Reaches old new → IsLater old.faults new.faults
reaches_later old new reached = subst (λ (s : State). IsLater old.faults s.faults) reached.2 (history_later old reached.0 reached.1)
