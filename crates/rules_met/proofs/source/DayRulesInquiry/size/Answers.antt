use Rattle.std.proofs.Common.{◌≡◌, ◌≤◌, ◌^◌, length, get_or, sym, ap, ◌∙◌, arith}
use Rattle.std.proofs.lemmas.List.{get_or_default}
use Rattle.std.proofs.lemmas.List.Elements.{All-get_or}
use Rattle.pb_base.specs.Node.{size}
use Rattle.pb_base.specs.Rule.{Rule, never}
use Rattle.pb_base.proofs.Nodes.{length-nodes_of}
use Rattle.rules_met.specs.Met.{RuleIsSmall}
use Rattle.rules_met.specs.Source.{rule_at}
use Rattle.rules_met.proofs.source.DayRulesInquiry.size.Goals as goal

pub overflow_cast-result : goal.overflow_cast-result
overflow_cast-result c =
    let fs = c.args.self.now.rules.now in
    let codes = length c.args.self.now.book.now.codes in
    let place = c.args.question in
    let read : Rule = get_or fs place c.index-self-question.result in
    let count : length c.nodes.result.now ≡ size (rule_at fs place) =
    ap length c.nodes.ensures ∙ length-nodes_of read ∙ ap (λ (g : Rule). size g) (get_or_default fs place c.index-self-question.result never c.requires.posed) in
    let few : size (rule_at fs place) ≤ 2 ^ 30 = (All-get_or (RuleIsSmall codes) fs place never c.requires.posed c.requires.ready.small).small in
    omega (arith, count, few)

pub returns : goal.returns
returns c =
    let fs = c.args.self.now.rules.now in
    let place = c.args.question in
    let read : Rule = get_or fs place c.index-self-question.result in
    ap length c.nodes.ensures ∙ length-nodes_of read ∙ ap (λ (g : Rule). size g) (get_or_default fs place c.index-self-question.result never c.requires.posed)
