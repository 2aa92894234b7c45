use Rattle.std.proofs.Common.{arith}
use Rattle.answering.proofs.LaterHands.{hand_twice}
use Rattle.serve_run.specs.declared.work_end.WorkEnd.TheVariants.{Memory}
use Rattle.serve_run.proofs.Working.{on_and_on, stops}
use Rattle.serve_run.proofs.links.serve_links.Goals as goal

pub returns-in-Err-clause-steps : goal.returns-in-Err-clause-steps
returns-in-Err-clause-steps g c =
    hand_twice (g.T.Turns.hand c.args.turns.now) (g.T.Turns.hand c.loop.turns) (g.T.Turns.hand c.serve_next.new.turns) c.loop.invariant.steps c.serve_next.ensures.steps

pub loop-preserved : goal.loop-preserved
loop-preserved g c =
    let first = g.T.Turns.hand c.args.turns.now in
    let mid = g.T.Turns.hand c.loop.turns in
    let last = g.T.Turns.hand c.serve_next.new.turns in
    record {
      none_out = c.serve_next.ensures.none_out;
      on =
          on_and_on first mid last (g.Q.DoorPort.told c.args.port.now) (g.Q.DoorPort.told c.loop.port) (g.Q.DoorPort.told c.serve_next.new.port) c.args.faults.now.items
          c.loop.faults.items c.serve_next.new.faults.items c.loop.invariant.on c.in_default.ensures.goes_on;
      steps = hand_twice first mid last c.loop.invariant.steps c.serve_next.ensures.steps;
      faultless = λ sure. c.serve_next.ensures.faultless (c.loop.invariant.faultless sure);
    }

pub returns-clause-works : goal.returns-clause-works
returns-clause-works g c =
    let p = g.Q.DoorPort.told c.loop.port in
    let h = g.T.Turns.hand c.loop.turns in
    c.loop.invariant.on Memory p c.loop.faults.items h (stops Memory h p p.over p.faults c.loop.faults.items c.loop.invariant.none_out (omega arith) tt)
