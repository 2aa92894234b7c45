use Rattle.std.proofs.Common.{refl, sym, arith}
use Rattle.std.specs.Prelude.{map}
use Rattle.answering.proofs.Seats.{legal_turns}
use Rattle.serve_run.proofs.Joinings.{served}
use Rattle.serve_run.proofs.SameWorkers.{all_unfailing, kept_numbers, kept_shares}
use Rattle.serve_run.proofs.Seatings.{as_many}
use Rattle.serve_run.proofs.serving.run_workers.Goals as goal

pub join_workers-pass-requires-clause-room : goal.join_workers-pass-requires-clause-room
join_workers-pass-requires-clause-room g c κs within =
    let many = as_many g.Q.DoorPort.told c.args.ports.items c.seat_workers-pass.result.1.items c.seat_workers-pass.ensures.ports in (
      omega (arith, many, c.worked-workers.ensures.len, c.requires.ports),
      omega (arith, many, c.worked-workers.ensures.len, c.requires.faults),
    )

pub returns-clause-runs : goal.returns-clause-runs
returns-clause-runs g c =
    let told = g.Q.DoorPort.told in
    let start = c.args.book.start in
    let ports = map told c.args.ports.items in
    let ports' = map told c.join_workers-pass.result.ports.items in
    let pass = c.join_workers-pass.result.pass in
    let joined = c.join_workers-pass.ensures.joined in
    record {
      served =
          served c.args.book start c.close.result c.args.share _ pass ports' _ c.join_workers-pass.result.end refl joined (legal_turns start pass.seen c.close.ensures.history)
          (sym c.close.ensures.machine) c.close.ensures.own;
      ended = joined.ended;
      numbers =
          kept_numbers c.seat_workers-pass.result.1.items c.worked-workers.result.items ports ports' c.worked-workers.ensures.len c.worked-workers.ensures.same
          c.seat_workers-pass.ensures.ports c.join_workers-pass.ensures.ports;
      shares =
          kept_shares c.seat_workers-pass.result.1.items c.worked-workers.result.items ports ports' c.worked-workers.ensures.len c.worked-workers.ensures.same
          c.seat_workers-pass.ensures.ports c.join_workers-pass.ensures.ports;
      cause = joined.cause;
    }

pub returns-clause-quiet : goal.returns-clause-quiet
returns-clause-quiet g c = λ sure.
    c.join_workers-pass.ensures.quiet
    (all_unfailing g.Q.DoorPort.faultless c.args.ports.items c.seat_workers-pass.result.1.items c.worked-workers.result.items c.worked-workers.ensures.len
    c.worked-workers.ensures.same c.seat_workers-pass.ensures.faultless sure)
