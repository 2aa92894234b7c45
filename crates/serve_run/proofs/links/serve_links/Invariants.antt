use Rattle.std.proofs.Common.{◌≡◌, true, false}
use Rattle.answering.specs.LaterHand.{IsLaterHand}
use Rattle.serve_run.specs.Work.{WorksOn}
use Rattle.serve_run.proofs.links.serve_links.Given as goal

abbrev pub invariant-loop : goal.invariant-loop
invariant-loop g l = record {
  none_out : (g.Q.DoorPort.told l.port).out ≡ false;
  on : WorksOn (g.T.Turns.hand l.fn.turns) (g.Q.DoorPort.told l.fn.port) l.fn.faults.items (g.T.Turns.hand l.turns) (g.Q.DoorPort.told l.port) l.faults.items;
  steps : IsLaterHand (g.T.Turns.hand l.fn.turns) (g.T.Turns.hand l.turns);
  faultless : g.Q.DoorPort.faultless l.fn.port ≡ true → g.Q.DoorPort.faultless l.port ≡ true;
}
