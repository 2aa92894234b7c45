use Rattle.std.proofs.Common.{◌≡◌, [], ◌∷◌, ◌++◌, length, sym, ap, subst, ◌∙◌}
use Rattle.pb_base.specs.declared.node.Node.TheVariants.{WhenFalse}
use Rattle.rule_text.specs.Reading.{whole}
use Rattle.rule_text.specs.Draft.{open_in, IsDraft}
use Rattle.rule_text.proofs.DraftLemmas.{behind_slash}
use Rattle.rule_text.proofs.expression.begin_term.Goals as goal

pub returns-clause-draft : goal.returns-clause-draft
returns-clause-draft c =
    let ns = c.end_term.new.nodes.items in
    let read = open_in c.args.start c.args.nodes.now.items in
    let pushed = c.in_ok-push.ensures.items in
    let is_start : c.len.result ≡ length (ns ++ WhenFalse 0 ∷ []) = c.len.ensures ∙ c.push.new.self.ok.0 ∙ ap length pushed in
    subst (IsDraft c.len.result) (sym pushed) (behind_slash ns (whole read) (WhenFalse 0) c.len.result c.in_ok-end_term.ensures is_start).0

pub returns-clause-read : goal.returns-clause-read
returns-clause-read c =
    let ns = c.end_term.new.nodes.items in
    let read = open_in c.args.start c.args.nodes.now.items in
    let pushed = c.in_ok-push.ensures.items in
    let is_start : c.len.result ≡ length (ns ++ WhenFalse 0 ∷ []) = c.len.ensures ∙ c.push.new.self.ok.0 ∙ ap length pushed in
    ap (open_in c.len.result) pushed ∙ (behind_slash ns (whole read) (WhenFalse 0) c.len.result c.in_ok-end_term.ensures is_start).1
