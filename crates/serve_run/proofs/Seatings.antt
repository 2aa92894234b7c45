-- Workers that are given their ports and passes.
use Rattle.std.proofs.Common.{◌≡◌, ◌∙◌, ℕ, List, [], length, Some, ap, subst, sym}
use Rattle.std.specs.Prelude.{map}
use Rattle.std.proofs.lemmas.List.{length-map}
use Rattle.pb_door.specs.PortTold.{PortTold}
use Rattle.turn_book.specs.Standing.{Opened}
use Rattle.order_desk.specs.Tables.{State}
use Rattle.serve_run.specs.Workers.{IsFresh, IsReady, IsUnused, Passed, WorkerTold}

-- a worker with a port that gave nothing yet and a pass that has made nothing
pub ready_new : (book : Opened State) (share : ℕ) (port : PortTold) (w : WorkerTold) (pass : Passed) → w.port ≡ port → w.pass ≡ Some pass → w.faults ≡ []
    → IsFresh book share pass → IsUnused port → IsReady book share w
ready_new book share port w pass port_is has none fresh unused = record {
  pass = pass;
  has = has;
  fresh = fresh;
  port = subst IsUnused (sym port_is) unused;
  no_faults = none;
}

-- a worker for each port
pub as_many : {Q : Type 0} (told : Q → PortTold) (ports : List Q) (workers : List WorkerTold) → map (λ w. w.port) workers ≡ map told ports → length workers ≡ length ports
as_many told ports workers is = sym (length-map workers (λ (w : WorkerTold). w.port)) ∙ (ap length is ∙ length-map ports told)
