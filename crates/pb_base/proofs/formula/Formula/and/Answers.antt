-- The two lists joined by the nodes of the connective.
use Rattle.std.proofs.Common.{◌≡◌, ◌∷◌, [], ◌++◌, ◌∙◌, length, ap}
use Rattle.pb_base.specs.Rule.{both}
use Rattle.pb_base.specs.Node.{rule_of}
use Rattle.pb_base.specs.declared.node.Node.TheVariants.{WhenTrue, And}
use Rattle.pb_base.proofs.Nodes.{lawful, reads, both_joined}
use Rattle.pb_base.proofs.formula.Formula.and.Goals as goal

pub invariant_of-self : goal.invariant_of-self
invariant_of-self c =
    let left = c.self.inside.nodes.items in
    let right = c.right.inside.nodes.items in
    let s = c.in_ok-size.size in
    let long : s ≡ length right = c.in_ok-size.ensures ∙ ap length c.deref.ensures.value in
    let pushed : c.push_side.new.nodes.items ≡ left ++ WhenTrue s ∷ (right ++ And s ∷ []) =
    c.in_ok-push_side.ensures ∙ ap (λ side. left ++ WhenTrue s ∷ (side ++ And s ∷ [])) c.deref-2.ensures.value in
    lawful (both (rule_of left) (rule_of right)) _ (pushed ∙ both_joined (rule_of left) (rule_of right) left right s c.self.invariant c.right.invariant long)

pub returns : goal.returns
returns c =
    let left = c.self.inside.nodes.items in
    let right = c.right.inside.nodes.items in
    let s = c.in_ok-size.size in
    let long : s ≡ length right = c.in_ok-size.ensures ∙ ap length c.deref.ensures.value in
    let pushed : c.push_side.new.nodes.items ≡ left ++ WhenTrue s ∷ (right ++ And s ∷ []) =
    c.in_ok-push_side.ensures ∙ ap (λ side. left ++ WhenTrue s ∷ (side ++ And s ∷ [])) c.deref-2.ensures.value in
    let read = reads (both (rule_of left) (rule_of right)) _ (pushed ∙ both_joined (rule_of left) (rule_of right) left right s c.self.invariant c.right.invariant long) in
    read ∙ ap (λ f. both f (rule_of right)) c.self.view_is ∙ ap (both c.args.self) c.right.view_is
