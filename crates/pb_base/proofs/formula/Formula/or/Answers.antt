-- The two lists joined by the nodes of the connective.
use Rattle.std.proofs.Common.{◌≡◌, ◌∷◌, [], ◌++◌, ◌∙◌, length, ap}
use Rattle.pb_base.specs.Rule.{either}
use Rattle.pb_base.specs.Node.{rule_of}
use Rattle.pb_base.specs.declared.node.Node.TheVariants.{WhenFalse, Or}
use Rattle.pb_base.proofs.Nodes.{lawful, reads, either_joined}
use Rattle.pb_base.proofs.formula.Formula.or.Goals as goal

pub invariant_of-self : goal.invariant_of-self
invariant_of-self c =
    let left = c.self.inside.nodes.items in
    let right = c.right.inside.nodes.items in
    let s = c.in_ok-size.size in
    let long : s ≡ length right = c.in_ok-size.ensures ∙ ap length c.deref.ensures.value in
    let pushed : c.push_side.new.nodes.items ≡ left ++ WhenFalse s ∷ (right ++ Or s ∷ []) =
    c.in_ok-push_side.ensures ∙ ap (λ side. left ++ WhenFalse s ∷ (side ++ Or s ∷ [])) c.deref-2.ensures.value in
    lawful (either (rule_of left) (rule_of right)) _ (pushed ∙ either_joined (rule_of left) (rule_of right) left right s c.self.invariant c.right.invariant long)

pub returns : goal.returns
returns c =
    let left = c.self.inside.nodes.items in
    let right = c.right.inside.nodes.items in
    let s = c.in_ok-size.size in
    let long : s ≡ length right = c.in_ok-size.ensures ∙ ap length c.deref.ensures.value in
    let pushed : c.push_side.new.nodes.items ≡ left ++ WhenFalse s ∷ (right ++ Or s ∷ []) =
    c.in_ok-push_side.ensures ∙ ap (λ side. left ++ WhenFalse s ∷ (side ++ Or s ∷ [])) c.deref-2.ensures.value in
    let read = reads (either (rule_of left) (rule_of right)) _ (pushed ∙ either_joined (rule_of left) (rule_of right) left right s c.self.invariant c.right.invariant long) in
    read ∙ ap (λ f. either f (rule_of right)) c.self.view_is ∙ ap (either c.args.self) c.right.view_is
