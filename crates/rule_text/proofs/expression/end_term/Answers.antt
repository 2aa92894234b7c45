use Rattle.std.proofs.Common.{◌≡◌, refl, length, drop, ap, ◌∙◌}
use Rattle.std.proofs.lemmas.List.{take_rest}
use Rattle.rule_text.specs.Draft.{open_in}
use Rattle.rule_text.proofs.DraftLemmas.{whole_ended}
use Rattle.rule_text.proofs.expression.end_term.Goals as goal

pub returns : goal.returns
returns c =
    let start = c.args.start in
    let before = c.args.nodes.now.items in
    let ended = c.fill_term.new.nodes.items in
    let size : c.in_ok-size.size ≡ length (drop start ended) =
    c.in_ok-size.ensures ∙ ap length (take_rest c.deref.result.now start) ∙ ap (λ ns. length (drop start ns)) c.deref.ensures.value in
    whole_ended start c.in_ok-size.size before ended c.push.new.self.items (open_in start before) refl c.requires c.in_ok-fill_term.ensures c.if-start-eq0.false size c.in_ok-push.ensures.items
