-- The statuses of the replies to `days`.
use Rattle.std.proofs.Common.{◌≡◌, inl, inr, ℕ, true, false, List, Option, None, Some, Result, Ok, Err, refl, sym, ap, subst}
use Rattle.std.specs.Prelude.{IsOk, IfOk}
use Rattle.book_model.specs.Contents.{Contents}
use Rattle.book_text.specs.declared.fault.BookFault.{BookFault}
use Rattle.order_days.specs.Days.{AreRuns, days_fault}
use Rattle.order_days.specs.declared.days.DaysFault.{DaysFault}
use Rattle.order_days.specs.declared.days.DaysFault.TheVariants.{Order, Limit}
use Rattle.order_days.specs.declared.run.Run.{Run}
use Rattle.book_commands.specs.Days.{IsDaysReply, IsDaysStatus, RepliesByFault, RepliesOnDays, RepliesToDays, days_fault_reply, days_reply}
use Rattle.book_commands.specs.RunReply.{RunReply}
use Rattle.book_commands.specs.declared.run_status.RunStatus.TheVariants.{Done}
use Rattle.book_commands.proofs.Statuses.{same-kind}

fault-kind : (fault : DaysFault) → IsDaysStatus (days_fault_reply fault).status
fault-kind (Order fault) = inr refl
fault-kind (Limit fault) = inr refl

told-kind : (b : Contents) (names : List (List ℕ)) (fault : Option DaysFault) (reply : RunReply) → RepliesByFault b names fault reply → IsDaysStatus reply.status
told-kind b names None reply h = inl (ap (λ (r : RunReply). r.status) h.told)
told-kind b names (Some fault) reply h = same-kind IsDaysStatus _ reply h (fault-kind fault)

pub days-kind : (book : Result Contents BookFault) (names : List (List ℕ)) (reply : RunReply) → RepliesToDays book names reply → IsDaysStatus reply.status
days-kind (Ok b) names reply h = told-kind b names (days_fault b names) reply h
days-kind (Err fault) names reply h = same-kind IsDaysStatus _ reply h (inr refl)

told-answered : (b : Contents) (names : List (List ℕ)) (fault : Option DaysFault) (reply : RunReply) → fault ≡ None → RepliesByFault b names fault reply → reply.status ≡ Done
told-answered b names None reply none h = ap (λ (r : RunReply). r.status) h.told
told-answered b names (Some fault) reply none h = absurd (cc)

pub days-answered : (book : Result Contents BookFault) (names : List (List ℕ)) (reply : RunReply) → IsOk book → IfOk book (λ b. days_fault b names ≡ None)
    → RepliesToDays book names reply → reply.status ≡ Done
days-answered (Ok b) names reply ok faultless h = told-answered b names (days_fault b names) reply faultless h
days-answered (Err fault) names reply ok faultless h = let clash : false ≡ true = ok in cc

-- the reply with the runs of days, and that with a fault
pub told_runs : {E : Type 0} (b : Contents) (names : List (List ℕ)) (runs : List Run) (made : Result RunReply E) → AreRuns b names runs
    → IfOk made (λ r. r ≡ days_reply b runs) → IfOk made (RepliesOnDays b names)
told_runs b names runs (Ok reply) right told =
    let is : IsDaysReply b names reply = record { runs = runs; are_right = right; told = told } in
    subst (λ (f : Option DaysFault). RepliesByFault b names f reply) (sym right.faultless) is
told_runs b names runs (Err wanting) right told = tt

pub told_fault : {E : Type 0} (b : Contents) (names : List (List ℕ)) (fault : DaysFault) (made : Result RunReply E) → days_fault b names ≡ Some fault
    → IfOk made (λ r. r ≡ days_fault_reply fault) → IfOk made (RepliesOnDays b names)
told_fault b names fault (Ok reply) is told = subst (λ (f : Option DaysFault). RepliesByFault b names f reply) (sym is) told
told_fault b names fault (Err wanting) is told = tt
