use Rattle.std.proofs.Common.{◌≡◌, ◌∙◌, ◌∷◌, length, sym, ap, subst, arith}
use Rattle.std.specs.Prelude.{All}
use Rattle.std.proofs.lemmas.List.Elements.{All-head, All-push, All-tail}
use Rattle.serve_run.specs.Workers.{IsReady, IsUnused, WorkerTold}
use Rattle.serve_run.proofs.Fresh.{fresh_cut, fresh_kept, moved}
use Rattle.serve_run.proofs.Seatings.{ready_new}
use Rattle.serve_run.proofs.Shares.{share_push, share_taken}
use Rattle.serve_run.proofs.seating.seat_workers.Goals as goal

pub loop-port-preserved : goal.loop-port-preserved
loop-port-preserved g c =
    let book = c.args.book.now in
    let share = c.args.share in
    let told = g.Q.DoorPort.told in
    let port = c.in-Some.port in
    let pass = c.loop-port.pass in
    let kept = c.split-kept.result.0 in
    let own = c.split-kept.result.1 in
    let worker = c.new.result in
    let workers = c.loop-port.workers.items in
    let rest = c.pop_front.new.self.items in
    let was : c.loop-port.rest.items ≡ port ∷ rest = c.in-Some.ensures.items in
    let unused = subst (All (λ p. IsUnused (told p))) was c.loop-port.invariant.unused in
    let fresh = fresh_cut book share pass own c.split-kept.ensures.books.1 c.split-kept.ensures.seen.1 c.split-kept.ensures.second.0 c.split-kept.ensures.second.1 c.loop-port.invariant.fresh in
    record {
      fresh = fresh_kept book pass kept c.split-kept.ensures.books.0 c.split-kept.ensures.seen.0 c.split-kept.ensures.first.0 c.loop-port.invariant.fresh;
      enough = share_taken share pass.left kept.left port c.loop-port.rest.items rest was c.loop-port.invariant.enough c.split-kept.ensures.first.1;
      left = rw c.put.ensures.items (omega (arith, share_push share workers worker, c.loop-port.invariant.left, c.split-kept.ensures.first.1));
      ready =
          rw c.put.ensures.items
          (All-push (IsReady book share) workers worker c.loop-port.invariant.ready
          (ready_new book share (told port) worker own c.new.ensures.port c.new.ensures.pass c.new.ensures.faults fresh (All-head (λ p. IsUnused (told p)) port rest unused)));
      unused = All-tail (λ p. IsUnused (told p)) port rest unused;
      ports = rw c.put.ensures.items (moved (λ (w : WorkerTold). w.port) told workers worker port rest _ (rw was at c.loop-port.invariant.ports) c.new.ensures.port);
      faultless =
          rw c.put.ensures.items
          (moved (λ (w : WorkerTold). w.faultless) g.Q.DoorPort.faultless workers worker port rest _ (rw was at c.loop-port.invariant.faultless) c.new.ensures.faultless);
      room = omega (arith, ap length was);
    }
