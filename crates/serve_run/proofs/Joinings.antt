-- A run that is over: from the joined pass to one history.
use Rattle.std.proofs.Common.{◌≡◌, ◌∙◌, ℕ, ◌+◌, ◌*◌, List, [], length, refl, sym, ap, subst, arith}
use Rattle.std.specs.Prelude.{map}
use Rattle.pb_door.specs.PortTold.{PortTold}
use Rattle.turn_book.specs.History.{AreAllBelow, end_of}
use Rattle.turn_book.specs.Standing.{Opened}
use Rattle.order_desk.specs.History.{IsLegal}
use Rattle.order_desk.specs.Tables.{State}
use Rattle.session.specs.declared.end.SessionEnd.{SessionEnd}
use Rattle.serve_run.specs.declared.work_end.WorkEnd.{WorkEnd}
use Rattle.serve_run.specs.declared.work_end.WorkEnd.TheVariants.{Over, Fault, Memory}
use Rattle.serve_run.specs.ServeRun.{IsServed}
use Rattle.serve_run.specs.Workers.{IsFresh, IsJoined, IsUnfailing, Passed, worse}

-- no worker's pass was joined yet
pub joined_none : (book : Opened State) (share limit rest : ℕ) (pass : Passed) (ports : List PortTold) (faults : List (List SessionEnd))
    → IsFresh book pass.left pass → ports ≡ [] → faults ≡ [] → pass.left + share * rest ≡ limit → IsJoined book share limit pass ports faults Over rest
joined_none book share limit rest pass ports faults fresh no_ports no_faults whole = rw (no_ports, no_faults) (record {
  table = fresh.table;
  places = [];
  own = fresh.own;
  runs = tt;
  counted = omega (arith, ap length fresh.own, whole);
  ended = tt;
  cause = λ is. cc;
})

pub unfailing_worse : (end other : WorkEnd) → IsUnfailing end → IsUnfailing other → IsUnfailing (worse end other)
unfailing_worse Over other one two = two
unfailing_worse Fault other one two = absurd one
unfailing_worse Memory other one two = tt

-- where all were, each entry of the history is a step of one port
pub served : (book : Opened State) (old new : State) (share limit : ℕ) (pass : Passed) (ports : List PortTold) (faults : List (List SessionEnd)) (end : WorkEnd)
    → book.start ≡ old → IsJoined book share limit pass ports faults end 0 → IsLegal book.start pass.seen → end_of book.start pass.seen ≡ new
    → AreAllBelow (length pass.seen) pass.own → IsServed old new share ports faults
served book old new share limit pass ports faults end opened joined legal reached whole = record {
  book = book;
  opened = opened;
  history = pass.seen;
  legal = subst (λ (s : State). IsLegal s pass.seen) opened legal;
  reached = ap (λ (s : State). end_of s pass.seen) (sym opened) ∙ reached;
  places = joined.places;
  runs = joined.runs;
  whole = subst (λ (ns : List ℕ). AreAllBelow (length pass.seen) ns) joined.own whole;
}
