use Rattle.std.proofs.Common.{◌≡◌, ◌∙◌, ◌+◌, ◌*◌, ◌∷◌, ◌++◌, ℕ, List, length, sym, ap, subst, arith}
use Rattle.std.specs.Prelude.{All, map}
use Rattle.std.proofs.lemmas.List.Elements.{All-head, All-tail}
use Rattle.pb_door.specs.PortTold.{PortTold}
use Rattle.serve_run.specs.Workers.{IsDone, IsJoined, IsUnfailing, WorkerTold}
use Rattle.serve_run.proofs.Fresh.{map_none, moved_on}
use Rattle.serve_run.proofs.Joinings.{joined_none, unfailing_worse}
use Rattle.serve_run.proofs.joining.join_workers.Goals as goal

pub loop-worker-preserved : goal.loop-worker-preserved
loop-worker-preserved g c =
    let book = c.args.book.now in
    let share = c.args.share in
    let told = g.Q.DoorPort.told in
    let worker = c.in-Some.worker in
    let rest = c.pop_front.new.self.items in
    let was : c.loop-worker.rest.items ≡ worker ∷ rest = c.in-Some.ensures.items in
    let limit = c.args.pass.left + share * length c.args.workers.items in
    let before = c.loop-worker.joined in
    let more = c.with_worker-joined.result in
    record {
      joined =
          c.with_worker-joined.ensures.joined limit (length rest)
          (subst (λ (n : ℕ). IsJoined book share limit before.pass (map told before.ports.items) (map (λ f. f.items) before.faults.items) before.end n)
          (omega (arith, ap length was)) c.loop-worker.invariant.joined);
      done = All-tail (IsDone book share) worker rest (subst (All (IsDone book share)) was c.loop-worker.invariant.done);
      ports =
          moved_on (map told before.ports.items) (map told more.ports.items) (map (λ (w : WorkerTold). w.port) rest) (map (λ (w : WorkerTold). w.port) c.args.workers.items) worker.port
          (rw was at c.loop-worker.invariant.ports) c.with_worker-joined.ensures.ports;
      quiet = λ sure.
          let so_far = c.loop-worker.invariant.quiet sure in
          let left = subst (All (λ (w : WorkerTold). IsUnfailing w.end)) was so_far.1 in (
            subst IsUnfailing (sym c.with_worker-joined.ensures.end) (unfailing_worse before.end worker.end so_far.0 (All-head (λ (w : WorkerTold). IsUnfailing w.end) worker rest left)),
            All-tail (λ (w : WorkerTold). IsUnfailing w.end) worker rest left,
          );
      room_ports = omega (arith, ap length was);
      room_faults = omega (arith, ap length was);
    }

pub loop-worker-init : goal.loop-worker-init
loop-worker-init g c =
    let book = c.args.book.now in
    let share = c.args.share in
    let told = g.Q.DoorPort.told in
    let pass = c.args.pass in
    let rest = c.from_vec-rest.result.items in
    let is : rest ≡ c.args.workers.items = c.from_vec-rest.ensures.items in
    let ports = c.args.ports.items in
    let faults = c.args.faults.items in
    record {
      joined =
          joined_none book share (pass.left + share * length c.args.workers.items) (length rest) pass (map told ports) (map (λ f. f.items) faults) c.requires.pass (map_none ports told c.requires.none.0) (map_none faults (λ f. f.items) c.requires.none.1)
          (ap (λ (ws : List WorkerTold). pass.left + share * length ws) is);
      done = subst (All (IsDone book share)) (sym is) c.requires.done;
      ports = ap (λ (l : List PortTold). l ++ map (λ (w : WorkerTold). w.port) rest) (map_none ports told c.requires.none.0) ∙ ap (λ (ws : List WorkerTold). map (λ w. w.port) ws) is;
      quiet = λ sure. (tt, subst (All (λ (w : WorkerTold). IsUnfailing w.end)) (sym is) sure);
      room_ports = omega (arith, ap length c.requires.none.0, ap length is, c.requires.room.0);
      room_faults = omega (arith, ap length c.requires.none.1, ap length is, c.requires.room.1);
    }

pub with_worker-joined-requires-clause-done : goal.with_worker-joined-requires-clause-done
with_worker-joined-requires-clause-done g c κs within =
    let book = c.args.book.now in
    let share = c.args.share in
    let worker = c.in-Some.worker in
    let rest = c.pop_front.new.self.items in
    let was : c.loop-worker.rest.items ≡ worker ∷ rest = c.in-Some.ensures.items in
    All-head (IsDone book share) worker rest (subst (All (IsDone book share)) was c.loop-worker.invariant.done)
