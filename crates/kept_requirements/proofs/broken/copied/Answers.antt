use Rattle.std.proofs.Common.{◌≡◌, List, sym, ap, ◌∙◌}
use Rattle.pb_base.specs.Node.{nodes_of, rule_of}
use Rattle.pb_base.specs.declared.node.Node.{Node}
use Rattle.pb_base.proofs.Nodes.{rule_of-nodes_of}
use Rattle.kept_requirements.proofs.broken.copied.Goals as goal

pub of_nodes-requires : goal.of_nodes-requires
of_nodes-requires c =
    let rule = c.args.rule.now in
    let is : c.in_ok-nodes.nodes.items ≡ nodes_of rule = c.in_ok-nodes.ensures.items ∙ c.nodes.ensures in
    is ∙ ap nodes_of (sym (rule_of-nodes_of rule)) ∙ ap (λ (ns : List Node). nodes_of (rule_of ns)) (sym is)

pub returns : goal.returns
returns c =
    let rule = c.args.rule.now in
    let is : c.in_ok-nodes.nodes.items ≡ nodes_of rule = c.in_ok-nodes.ensures.items ∙ c.nodes.ensures in
    c.of_nodes.ensures ∙ ap rule_of is ∙ rule_of-nodes_of rule
