use Rattle.std.proofs.Common.{◌∙◌}
use Rattle.pb_base.proofs.Nodes.{lawful, reads}
use Rattle.rule_text.specs.Reading.{whole}
use Rattle.rule_text.proofs.expression.Expression.into_formula.Goals as goal

pub of_nodes-requires : goal.of_nodes-requires
of_nodes-requires c = lawful (whole c.args.self) c.in_ok-into_nodes.field-0.items c.in_ok-into_nodes.ensures

pub returns : goal.returns
returns c = c.of_nodes.ensures ∙ reads (whole c.args.self) c.in_ok-into_nodes.field-0.items c.in_ok-into_nodes.ensures
