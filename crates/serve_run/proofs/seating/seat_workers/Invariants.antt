use Rattle.std.proofs.Common.{◌≡◌, ◌+◌, ◌*◌, ◌≤◌, ◌++◌, length}
use Rattle.std.specs.Prelude.{All, map, vec_capacity}
use Rattle.serve_run.specs.Workers.{IsFresh, IsReady, IsUnused}
use Rattle.serve_run.proofs.seating.seat_workers.Given as goal

abbrev pub invariant-loop-port : goal.invariant-loop-port
invariant-loop-port g l = record {
  fresh : IsFresh l.fn.book l.pass.left l.pass;
  enough : l.share * length l.rest.items ≤ l.pass.left;
  left : l.pass.left + l.share * length l.workers.items ≡ l.fn.pass.left;
  ready : All (IsReady l.fn.book l.share) l.workers.items;
  unused : All (λ p. IsUnused (g.Q.DoorPort.told p)) l.rest.items;
  ports : map (λ w. w.port) l.workers.items ++ map g.Q.DoorPort.told l.rest.items ≡ map g.Q.DoorPort.told l.fn.ports.items;
  faultless : map (λ w. w.faultless) l.workers.items ++ map g.Q.DoorPort.faultless l.rest.items ≡ map g.Q.DoorPort.faultless l.fn.ports.items;
  room : length l.workers.items + length l.rest.items ≤ vec_capacity l.workers;
}

abbrev pub decreases-loop-port : goal.decreases-loop-port
decreases-loop-port g l = length l.rest.items
