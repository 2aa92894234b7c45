use Rattle.std.proofs.Common.{refl, arith, drop-cons}
use Rattle.clausify.proofs.NodeLaws.{nodes_begin, node_room}
use Rattle.clausify.proofs.encoder.Encoder.literal.Goals as goal

pub loop-node-init : goal.loop-node-init
loop-node-init c = record { left = nodes_begin _ _ _ _ c.nodes-node-items.ensures; truth = refl; first = refl }

pub add_node-requires-clause-room : goal.add_node-requires-clause-room
add_node-requires-clause-room c =
    rw c.loop-node.invariant.truth
    (node_room c.args.self.now.truth 4294967296 c.args.rule.now _ _ _ _ _ c.loop-node.invariant.left
    (drop-cons c.nodes-node-items.result.now c.loop-node.node-index _ (omega arith)) c.requires)
