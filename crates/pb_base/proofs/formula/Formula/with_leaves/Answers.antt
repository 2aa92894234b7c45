-- The nodes so far are those of the copy, and all of them are its whole list.
use Rattle.std.proofs.Common.{map, length, ap, ◌∙◌, arith}
use Rattle.std.proofs.lemmas.List.{take_all}
use Rattle.pb_base.specs.Leaves.{with_leaves, node_with}
use Rattle.pb_base.specs.Node.{nodes_of}
use Rattle.pb_base.proofs.Nodes.{lawful, reads}
use Rattle.pb_base.proofs.LeafLaws.{nodes_of-with_leaves}
use Rattle.pb_base.proofs.formula.Formula.with_leaves.Goals as goal

pub of_nodes-requires : goal.of_nodes-requires
of_nodes-requires g c =
    let leaf = g.L.Leaves.leaf c.args.leaves.now in
    lawful (with_leaves leaf c.args.self.now) _
    (c.loop-node.invariant
    ∙ ap (map (node_with leaf)) (take_all c.loop-node.node-index (nodes_of c.args.self.now) (omega (arith, ap length c.nodes-node-items.ensures)))
    ∙ nodes_of-with_leaves leaf c.args.self.now)

pub returns : goal.returns
returns g c =
    let leaf = g.L.Leaves.leaf c.args.leaves.now in
    c.of_nodes.ensures
    ∙ reads (with_leaves leaf c.args.self.now) _
    (c.loop-node.invariant
    ∙ ap (map (node_with leaf)) (take_all c.loop-node.node-index (nodes_of c.args.self.now) (omega (arith, ap length c.nodes-node-items.ensures)))
    ∙ nodes_of-with_leaves leaf c.args.self.now)
