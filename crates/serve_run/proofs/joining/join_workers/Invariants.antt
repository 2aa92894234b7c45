use Rattle.std.proofs.Common.{◌≡◌, ◌+◌, ◌*◌, ◌≤◌, ◌++◌, length}
use Rattle.std.specs.Prelude.{All, map, vec_capacity}
use Rattle.serve_run.specs.Workers.{IsDone, IsJoined, IsUnfailing}
use Rattle.serve_run.proofs.joining.join_workers.Given as goal

abbrev pub invariant-loop-worker : goal.invariant-loop-worker
invariant-loop-worker g l = record {
  joined :
      IsJoined l.fn.book l.share (l.fn.pass.left + l.share * length l.fn.workers.items) l.joined.pass (map g.Q.DoorPort.told l.joined.ports.items)
      (map (λ f. f.items) l.joined.faults.items) l.joined.end (length l.rest.items);
  done : All (IsDone l.fn.book l.share) l.rest.items;
  ports : map g.Q.DoorPort.told l.joined.ports.items ++ map (λ w. w.port) l.rest.items ≡ map (λ w. w.port) l.fn.workers.items;
  quiet : All (λ w. IsUnfailing w.end) l.fn.workers.items → IsUnfailing l.joined.end × All (λ w. IsUnfailing w.end) l.rest.items;
  room_ports : length l.joined.ports.items + length l.rest.items ≤ vec_capacity l.joined.ports;
  room_faults : length l.joined.faults.items + length l.rest.items ≤ vec_capacity l.joined.faults;
}

abbrev pub decreases-loop-worker : goal.decreases-loop-worker
decreases-loop-worker g l = length l.rest.items
