use Rattle.std.proofs.Common.{◌≡◌, drop}
use Rattle.clausify.specs.Encoding.{making_of}
use Rattle.clausify.proofs.NodeLaws.{NodesLeft}
use Rattle.clausify.proofs.encoder.Encoder.literal.Given as goal

abbrev pub invariant-loop-node : goal.invariant-loop-node
invariant-loop-node l = record {
  left : NodesLeft l.fn.self.truth l.fn.rule (making_of l.fn.self) (making_of l.self) (drop l.node-index l.node-items);
  truth : l.self.truth ≡ l.fn.self.truth;
  first : l.self.gates.first ≡ l.fn.self.gates.first;
}
