use Rattle.std.proofs.Common.{◌≡◌, sym, subst, ap, ◌∙◌}
use Rattle.rule_text.specs.Grammar.{IsText}
use Rattle.rule_text.specs.Token.{tokens}
use Rattle.rule_text.specs.Printing.{printed, printed_depth}
use Rattle.rule_text.specs.Reading.{rule_of}
use Rattle.rule_text.proofs.Back.{turned_round, prints_in_grammar, reads_back}
use Rattle.rule_text.proofs.print.print_rule.Goals as goal

pub returns-clause-spelled : goal.returns-clause-spelled
returns-clause-spelled c =
    let names = c.args.codes.now in
    let rule = c.args.rule.now in
    let text : c.of.result ≡ printed names rule =
    turned_round names rule c.part.result c.new-text.result.items c.write_backward.new.text.items c.of.result c.part.ensures c.new-text.ensures.items c.in_ok-write_backward.ensures (c.of.ensures ∙ c.reverse.ensures.items) in
    subst (λ xs. IsText names (printed_depth rule) (tokens xs) rule) (sym text) (prints_in_grammar names rule (c.names_law.ensures.form, c.names_law.ensures.distinct) c.requires)

pub returns-clause-read_back : goal.returns-clause-read_back
returns-clause-read_back c = λ shallow short.
    let names = c.args.codes.now in
    let rule = c.args.rule.now in
    let text : c.of.result ≡ printed names rule =
    turned_round names rule c.part.result c.new-text.result.items c.write_backward.new.text.items c.of.result c.part.ensures c.new-text.ensures.items c.in_ok-write_backward.ensures (c.of.ensures ∙ c.reverse.ensures.items) in
    ap (rule_of names) text ∙ reads_back names rule (c.names_law.ensures.form, c.names_law.ensures.distinct) c.requires shallow short
