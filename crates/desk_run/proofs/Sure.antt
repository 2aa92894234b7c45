-- Where no count rose, right rows and a stream of whole messages are served to the end, memory allowing.
use Rattle.std.proofs.Common.{◌≡◌, ◌∙◌, ℕ, List, refl, sym, inl, inr}
use Rattle.std.specs.Prelude.{Option, Some, None, IfSome, IsSomeAnd}
use Rattle.pb_base.specs.declared.answer.Fail.{Fail}
use Rattle.pb_base.specs.declared.answer.Fail.TheVariants.{Refused, Memory as NoMemory}
use Rattle.pb_outside.specs.Faults.{Fails}
use Rattle.pb_outside.specs.Sink.{Refuses}
use Rattle.http_wire.specs.Items.{ended, refused, cut, closed}
use Rattle.http_wire.specs.declared.message.Message.{Message}
use Rattle.keeper.specs.Rows.{Kept, begun}
use Rattle.order_desk.specs.declared.start.StartFault.{StartFault}
use Rattle.order_desk.specs.declared.start.StartFault.TheVariants.{BadRow, Store}
use Rattle.order_desk.specs.RightRows.{first_bad}
use Rattle.order_desk.specs.Tables.{State}
use Rattle.answering.specs.Hand.{Hand}
use Rattle.session.specs.Reading.{Stop, whole, unread, wanting, Reads}
use Rattle.session.specs.Session.{IsDue, StopsAt}
use Rattle.session.specs.declared.end.SessionEnd.{SessionEnd}
use Rattle.session.specs.declared.end.SessionEnd.TheVariants.{Done, Broken, ReadFault, WriteFault, Memory}
use Rattle.desk_run.specs.DeskRun.{DeskOutside, IsDeskRun, IsNotStarted, IsServed, IsStarted, hand_at}
use Rattle.desk_run.specs.Sure.{HasWholeMessages, IsDoneOrMemory, IsOrderly, IsUnfailing}
use Rattle.desk_run.specs.declared.end.DeskEnd.{DeskEnd}
use Rattle.desk_run.specs.declared.end.DeskEnd.TheVariants.{NotStarted, Served}

-- neither the keeper nor an end of the link failed
record FailsNowhere (before after : DeskOutside) : Type 0 where
  pub keeper : Fails before.faults after.faults → ⊥
  pub source : Fails before.link.input.faults after.link.input.faults → ⊥
  pub sink : (old : State) (stop : Stop) (out : List ℕ) (new : Hand) → IsStarted before old
      → IsDue stop before.link.input.left (hand_at old) out new → Refuses out before.link.output after.link.output → ⊥

pub no_bad_row : (rows : Option Kept) (place : ℕ × ℕ) → IsSomeAnd rows (λ r. first_bad (begun r) ≡ None)
    → IfSome rows (λ r. first_bad (begun r) ≡ Some place) → ⊥
no_bad_row None place right bad = right
no_bad_row (Some r) place right bad = let clash : None ≡ Some place = sym right ∙ bad in cc

not_started : (why : Fail StartFault) (before after : DeskOutside) → IsOrderly before → FailsNowhere before after
    → IsNotStarted why before after → IsDoneOrMemory (NotStarted why)
not_started (Refused (BadRow table place)) before after orderly nowhere is = absurd (no_bad_row before.rows (table, place) orderly.rows is.cause.first)
not_started (Refused (Store first last)) before after orderly nowhere is = absurd (nowhere.keeper is.cause.fails)
not_started NoMemory before after orderly nowhere is = inr (inr refl)

pub not_broken : (stop : Stop) (left : Option (List ℕ)) (messages : List Message) → StopsAt Broken stop → IsSomeAnd left HasWholeMessages
    → IfSome left (λ s. Reads stop s messages) → ⊥
not_broken stop None messages stops whole_messages read = whole_messages
not_broken (whole ended) (Some s) messages stops whole_messages read = stops
not_broken (whole (refused status)) (Some s) messages stops whole_messages read = whole_messages messages (refused status) read
not_broken (whole (cut head)) (Some s) messages stops whole_messages read = whole_messages messages (cut head) read
not_broken (whole closed) (Some s) messages stops whole_messages read = stops
not_broken (unread head) (Some s) messages stops whole_messages read = stops
not_broken (wanting head) (Some s) messages stops whole_messages read = stops

served : (end : SessionEnd) (before after : DeskOutside) → IsOrderly before → FailsNowhere before after → IsServed end before after
    → IsDoneOrMemory (Served end)
served Done before after orderly nowhere is = inl refl
served Broken before after orderly nowhere is =
    let s = is.served.dealt.session in
    absurd (not_broken s.stop before.link.input.left s.due.messages s.stops orderly.stream s.due.read)
served (ReadFault fault) before after orderly nowhere is = absurd (nowhere.source is.served.dealt.session.counted.fails)
served (WriteFault fault) before after orderly nowhere is =
    let s = is.served.dealt.session in
    absurd (nowhere.sink is.old s.stop s.out is.served.new is.started s.due s.written.refused)
served Memory before after orderly nowhere is = inr (inl refl)

run_served : (how : DeskEnd) (before after : DeskOutside) → IsOrderly before → FailsNowhere before after → IsDeskRun how before after → IsDoneOrMemory how
run_served (NotStarted why) before after orderly nowhere is = not_started why before after orderly nowhere is
run_served (Served end) before after orderly nowhere is = served end before after orderly nowhere is

pub run_unfailing : (how : DeskEnd) (before after : DeskOutside) → IsDeskRun how before after → IsOrderly before → IsUnfailing before after
    → IsDoneOrMemory how
run_unfailing how before after is orderly none =
    run_served how before after orderly (record {
      keeper = λ fails. none.keeper fails.rose;
      source = λ fails. none.source fails.rose;
      sink = λ old stop out new started due refuses. none.sink refuses.rose;
    }) is
