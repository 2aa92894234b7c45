use Rattle.std.proofs.Common.{length, ap, ◌∙◌}
use Rattle.pb_base.proofs.Nodes.{length-nodes_of}
use Rattle.lost_cars.proofs.common_cars.node_count.Goals as goal

pub returns : goal.returns
returns c = ap length c.nodes.ensures ∙ length-nodes_of c.args.rule.now
