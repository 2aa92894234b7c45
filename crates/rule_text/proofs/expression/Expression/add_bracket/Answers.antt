use Rattle.std.proofs.Common.{◌≡◌, sym, ap, subst, ◌∙◌}
use Rattle.pb_base.specs.Rule.{negated}
use Rattle.pb_base.specs.Node.{nodes_of}
use Rattle.pb_base.proofs.Nodes.{negated_joined}
use Rattle.rule_text.specs.Reading.{whole, with_factor}
use Rattle.rule_text.specs.Draft.{open_in, IsDraft}
use Rattle.rule_text.proofs.DraftLemmas.{factor_joined}
use Rattle.rule_text.proofs.expression.Expression.add_bracket.Goals as goal

pub invariant_of-self : goal.invariant_of-self
invariant_of-self c =
    let factor = negated c.args.signs (whole c.args.inner) in
    let are : c.deref.result.now ≡ nodes_of factor =
    c.deref.ensures.value ∙ c.put_signs.ensures.items ∙ negated_joined c.args.signs (whole c.args.inner) c.reserve.new.self.items (c.in_ok-reserve.ensures.items ∙ c.in_ok-factor.ensures) in
    let e = factor_joined c.self.inside.start c.self.inside.nodes.items c.deref.result.now factor c.self.invariant are in
    subst (IsDraft c.self.inside.start) (sym c.in-Ok.ensures) e.0

pub returns-in-Ok : goal.returns-in-Ok
returns-in-Ok c =
    let factor = negated c.args.signs (whole c.args.inner) in
    let are : c.deref.result.now ≡ nodes_of factor =
    c.deref.ensures.value ∙ c.put_signs.ensures.items ∙ negated_joined c.args.signs (whole c.args.inner) c.reserve.new.self.items (c.in_ok-reserve.ensures.items ∙ c.in_ok-factor.ensures) in
    let e = factor_joined c.self.inside.start c.self.inside.nodes.items c.deref.result.now factor c.self.invariant are in
    ap (open_in c.self.inside.start) c.in-Ok.ensures ∙ e.1 ∙ ap (λ o. with_factor o factor) c.self.view_is
