-- Where neither the source nor the keeper fails, a desk with right rows and a stream of whole messages serves its link to the end,
-- or the sink lacks room, or memory is wanting.
use Rattle.std.proofs.Common.{◌≡◌, ◌<◌, ◌∙◌, ℕ, true, false, List, length, refl, sym, inl, inr}
use Rattle.std.specs.Prelude.{◌⊎◌, IfSome}
use Rattle.pb_base.specs.declared.answer.Fail.TheVariants.{Refused, Memory as NoMemory}
use Rattle.pb_outside.specs.Faults.{Faults, Fails}
use Rattle.order_desk.specs.declared.start.StartFault.TheVariants.{BadRow, Store}
use Rattle.order_desk.specs.Tables.{State}
use Rattle.answering.specs.Hand.{Hand}
use Rattle.session.specs.Reading.{Stop}
use Rattle.session.specs.Session.{IsDue}
use Rattle.session.specs.declared.end.SessionEnd.TheVariants.{Done, Broken, ReadFault, WriteFault, Memory}
use Rattle.session.specs.declared.end.WriteFault.{WriteFault as Unwritten}
use Rattle.desk_run.specs.DeskRun.{DeskOutside, IsDeskRun, IsStarted, hand_at}
use Rattle.desk_run.specs.Sure.{IsDoneOrMemory, IsOrderly}
use Rattle.desk_run.proofs.Sure.{no_bad_row, not_broken}
use Rattle.desk_run.specs.declared.end.DeskEnd.{DeskEnd}
use Rattle.desk_run.specs.declared.end.DeskEnd.TheVariants.{NotStarted, Served}

-- a write failed, for which there was no sure room
pub record IsShort (how : DeskEnd) (before : DeskOutside) : Type 0 where
  pub fault : Unwritten
  pub ends : how ≡ Served (WriteFault fault)
  pub old : State
  pub stop : Stop
  pub out : List ℕ
  pub new : Hand
  pub started : IsStarted before old
  pub due : IsDue stop before.link.input.left (hand_at old) out new
  pub no_room : IfSome before.link.output.room (λ bytes. bytes < length out)

-- what is ruled out doesn't come
pub never_fails : (before after : Faults) → before.faultless ≡ true → Fails before after → ⊥
never_fails before after faultless fails = let clash : true ≡ false = sym faultless ∙ fails.possible in cc

pub sure_or_short : (how : DeskEnd) (before after : DeskOutside) → IsOrderly before → before.link.input.faults.faultless ≡ true
    → before.faults.faultless ≡ true → IsDeskRun how before after → IsDoneOrMemory how ⊎ IsShort how before
sure_or_short (NotStarted (Refused (BadRow table place))) before after orderly source keeper is =
    absurd (no_bad_row before.rows (table, place) orderly.rows is.cause.first)
sure_or_short (NotStarted (Refused (Store first last))) before after orderly source keeper is =
    absurd (never_fails before.faults after.faults keeper is.cause.fails)
sure_or_short (NotStarted NoMemory) before after orderly source keeper is = inl (inr (inr refl))
sure_or_short (Served Done) before after orderly source keeper is = inl (inl refl)
sure_or_short (Served Broken) before after orderly source keeper is =
    let s = is.served.dealt.session in
    absurd (not_broken s.stop before.link.input.left s.due.messages s.stops orderly.stream s.due.read)
sure_or_short (Served (ReadFault fault)) before after orderly source keeper is =
    absurd (never_fails before.link.input.faults after.link.input.faults source is.served.dealt.session.counted.fails)
sure_or_short (Served (WriteFault fault)) before after orderly source keeper is =
    let s = is.served.dealt.session in
    inr (record {
      fault = fault;
      ends = refl;
      old = is.old;
      stop = s.stop;
      out = s.out;
      new = is.served.new;
      started = is.started;
      due = s.due;
      no_room = s.written.refused.no_room;
    })
sure_or_short (Served Memory) before after orderly source keeper is = inl (inr (inl refl))
