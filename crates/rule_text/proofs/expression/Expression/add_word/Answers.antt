use Rattle.std.proofs.Common.{◌∷◌, sym, ap, subst, replicate, ◌∙◌}
use Rattle.pb_base.specs.Rule.{negated}
use Rattle.pb_base.specs.Node.{rule_of_leaf, leaf_node}
use Rattle.pb_base.specs.declared.node.Node.TheVariants.{Not}
use Rattle.pb_base.proofs.Nodes.{leaf_joined}
use Rattle.rule_text.specs.Reading.{with_factor}
use Rattle.rule_text.specs.Draft.{open_in, IsDraft}
use Rattle.rule_text.proofs.DraftLemmas.{factor_joined}
use Rattle.rule_text.proofs.expression.Expression.add_word.Goals as goal

pub invariant_of-self : goal.invariant_of-self
invariant_of-self c =
    let word = negated c.args.signs (rule_of_leaf c.args.leaf) in
    let e = factor_joined c.self.inside.start c.self.inside.nodes.items (leaf_node c.args.leaf ∷ replicate c.args.signs Not) word c.self.invariant (leaf_joined c.args.leaf c.args.signs) in
    subst (IsDraft c.self.inside.start) (sym c.in-Ok.ensures) e.0

pub returns-in-Ok : goal.returns-in-Ok
returns-in-Ok c =
    let word = negated c.args.signs (rule_of_leaf c.args.leaf) in
    let e = factor_joined c.self.inside.start c.self.inside.nodes.items (leaf_node c.args.leaf ∷ replicate c.args.signs Not) word c.self.invariant (leaf_joined c.args.leaf c.args.signs) in
    ap (open_in c.self.inside.start) c.in-Ok.ensures ∙ e.1 ∙ ap (λ o. with_factor o word) c.self.view_is
