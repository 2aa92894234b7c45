-- A worker that is done.
use Rattle.std.proofs.Common.{◌≡◌, ◌∙◌, ℕ, ◌+◌, ◌<◌, true, List, [], ◌∷◌, ◌++◌, length, Option, Some, refl, sym, ap, subst, inl, inr, length-append, arith}
use Rattle.std.specs.Prelude.{map, unwrap_or}
use Rattle.std.proofs.lemmas.Bool.{lt-ltb}
use Rattle.pb_outside.specs.Faults.{Rose}
use Rattle.pb_door.specs.DoorTold.{has_failed}
use Rattle.pb_door.specs.LinkTold.{LinkTold}
use Rattle.pb_door.specs.PortTold.{PortTold}
use Rattle.turn_book.specs.Standing.{Opened}
use Rattle.order_desk.specs.Tables.{State}
use Rattle.answering.specs.Hand.{Hand, Made}
use Rattle.answering.specs.LaterHand.{IsLaterHand}
use Rattle.answering.specs.Seat.{IsSeated, Sitting, hand_of, sitting}
use Rattle.answering.proofs.Seats.{length_made}
use Rattle.session.specs.declared.end.SessionEnd.{SessionEnd}
use Rattle.serve_run.specs.Work.{EndsWork, Notes, ServesLinks, Works}
use Rattle.serve_run.specs.declared.work_end.WorkEnd.{WorkEnd}
use Rattle.serve_run.specs.declared.work_end.WorkEnd.TheVariants.{Over, Fault, Memory}
use Rattle.serve_run.specs.ServeRun.{IsEnded, IsPortRun, hand_at}
use Rattle.serve_run.specs.Workers.{IsDone, IsFresh, IsReady, IsUnused, Passed, WorkerTold}

pub same_some : (a b : Passed) (o : Option Passed) → o ≡ Some a → o ≡ Some b → a ≡ b
same_some a b o is also = ap (λ (p : Option Passed). unwrap_or p a) (sym is ∙ also)

-- who holds a pass that has made nothing knows the state at the start
fresh_hand : (book : Opened State) (share : ℕ) (pass : Passed) → IsFresh book share pass → hand_of (sitting book pass) ≡ hand_at book share
fresh_hand book share pass fresh = rw (fresh.seen, fresh.own, fresh.left) refl

from_nothing : {A : Type 0} (before more after : List A) → before ≡ [] → after ≡ before ++ more → more ≡ after
from_nothing before more after none is = sym (is ∙ ap (λ l. l ++ more) none)

ended_so : (end : WorkEnd) (before after : PortTold) → before.faults ≡ 0 → EndsWork end before after → IsEnded end after
ended_so Over before after none is = is
ended_so Fault before after none (inl rose) = inr (omega (arith, none, rose))
ended_so Fault before after none (inr last) = inr (omega (arith, last))
ended_so Memory before after none is = tt

failed_so : (end : WorkEnd) (before after : PortTold) → before.faults ≡ 0 → EndsWork end before after → end ≡ Fault → has_failed after ≡ true
failed_so Over before after none is so = cc
failed_so Fault before after none (inl rose) so = lt-ltb 0 after.faults (omega (arith, none, rose))
failed_so Fault before after none (inr last) so = lt-ltb 0 after.faults (omega (arith, last))
failed_so Memory before after none is so = cc

-- the calls of a pass are the steps that were made
steps_made : (book : Opened State) (pass : Passed) → IsSeated (sitting book pass) → length (hand_of (sitting book pass)).made ≡ length pass.own
steps_made book pass seated = length_made book.start pass.seen pass.own seated.rises

pub done_so : (book : Opened State) (share : ℕ) (before after : WorkerTold) (pass later : Passed) → IsFresh book share pass → IsUnused before.port → before.faults ≡ []
    → after.pass ≡ Some later → IsSeated (sitting book later)
    → Works after.end (hand_of (sitting book pass)) before.port after.port before.faults after.faults (hand_of (sitting book later))
    → IsLaterHand (hand_of (sitting book pass)) (hand_of (sitting book later)) → IsDone book share after
done_so book share before after pass later fresh unused no_faults has seated works steps =
    let at_start = fresh_hand book share pass fresh in
    let given : works.given ≡ after.port.given = from_nothing before.port.given works.given after.port.given unused.given works.gave in
    let ended : works.ended ≡ after.port.ended = from_nothing before.port.ended works.ended after.port.ended unused.ended works.took in
    let kept : works.kept ≡ after.faults = from_nothing before.faults works.kept after.faults no_faults works.logged in
    let last = hand_of (sitting book later) in
    let serves : ServesLinks works.ends (hand_at book share) after.port.given after.port.ended last =
    subst (λ (h : Hand). ServesLinks works.ends h after.port.given after.port.ended last) at_start
    (subst (λ (g : List LinkTold). ServesLinks works.ends (hand_of (sitting book pass)) g after.port.ended last) given
    (subst (λ (e : List LinkTold). ServesLinks works.ends (hand_of (sitting book pass)) works.given e last) ended works.serves)) in
    let adds = steps.made in
    let none_made : (hand_of (sitting book pass)).made ≡ [] = ap (λ (h : Hand). h.made) at_start in
    let all_made : length last.made ≡ length adds.0 = ap length (sym (from_nothing (hand_of (sitting book pass)).made adds.0 last.made none_made adds.1)) in
    record {
      pass = later;
      has = has;
      table = seated.table;
      run = record {
        ends = works.ends;
        hand = last;
        serves = serves;
        made = refl;
        rises = seated.rises;
        notes = subst (λ (k : List SessionEnd). Notes works.ends k) kept works.notes;
        none_out = works.none_out;
      };
      counted = omega (arith, adds.2, all_made, steps_made book later seated, fresh.left);
      ended = ended_so after.end before.port after.port unused.no_faults works.cause;
      cause = failed_so after.end before.port after.port unused.no_faults works.cause;
    }

-- the same, from the seat that it had before and after
pub done_from : (book : Opened State) (share : ℕ) (before after : WorkerTold) → IsReady book share before → (pass later : Passed) (first last : Sitting) → before.pass ≡ Some pass
    → first ≡ sitting book pass → later ≡ last.pass → IsSeated last → after.pass ≡ Some later
    → Works after.end (hand_of first) before.port after.port before.faults after.faults (hand_of last) → IsLaterHand (hand_of first) (hand_of last) → IsDone book share after
done_from book share before after ready pass later first last had is_first is_later seated has works steps =
    let same : pass ≡ ready.pass = same_some pass ready.pass before.pass had ready.has in
    let fresh : IsFresh book share pass = subst (IsFresh book share) (sym same) ready.fresh in
    let its_book : last.book ≡ book = ap (λ (o : Option (Opened State)). unwrap_or o book) (steps.book ∙ ap (λ (s : Sitting). (hand_of s).book) is_first) in
    let is_last : last ≡ sitting book later = λ i. record { book = its_book i; pass = sym is_later i } in
    done_so book share before after pass later fresh ready.port ready.no_faults has (subst IsSeated is_last seated)
    (subst (λ (s : Sitting). Works after.end (hand_of s) before.port after.port before.faults after.faults (hand_of (sitting book later))) is_first
    (subst (λ (s : Sitting). Works after.end (hand_of first) before.port after.port before.faults after.faults (hand_of s)) is_last works))
    (subst (λ (s : Sitting). IsLaterHand (hand_of s) (hand_of (sitting book later))) is_first
    (subst (λ (s : Sitting). IsLaterHand (hand_of first) (hand_of s)) is_last steps))
