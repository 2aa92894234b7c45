-- The list with a minus sign behind it.
use Rattle.std.proofs.Common.{◌∙◌, ap}
use Rattle.pb_base.specs.Rule.{negation}
use Rattle.pb_base.specs.Node.{rule_of}
use Rattle.pb_base.proofs.Nodes.{lawful, reads, negated_joined}
use Rattle.pb_base.proofs.formula.Formula.not.Goals as goal

pub invariant_of-self : goal.invariant_of-self
invariant_of-self c =
    let ns = c.self.inside.nodes.items in
    lawful (negation (rule_of ns)) _ (c.in_ok-push.ensures.items ∙ negated_joined 1 (rule_of ns) ns c.self.invariant)

pub returns : goal.returns
returns c =
    let ns = c.self.inside.nodes.items in
    reads (negation (rule_of ns)) _ (c.in_ok-push.ensures.items ∙ negated_joined 1 (rule_of ns) ns c.self.invariant) ∙ ap negation c.self.view_is
