use Rattle.std.proofs.Common.{◌≡◌, take, map}
use Rattle.pb_base.specs.Leaves.{node_with}
use Rattle.pb_base.specs.Node.{nodes_of}
use Rattle.pb_base.proofs.formula.Formula.with_leaves.Given as goal

abbrev pub invariant-loop-node : goal.invariant-loop-node
invariant-loop-node g l = l.nodes.items ≡ map (node_with (g.L.Leaves.leaf l.leaves)) (take l.node-index (nodes_of l.self))
