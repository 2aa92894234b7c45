use Rattle.std.proofs.Common.{◌≡◌, ◌+◌, ◌++◌, replicate, vec_len, vec_capacity}
use Rattle.pb_base.specs.declared.node.Node.TheVariants.{Not}
use Rattle.rule_text.proofs.expression.put_signs.Given as goal

abbrev pub invariant-loop : goal.invariant-loop
invariant-loop l =
    (l.nodes.items ≡ l.initial.nodes.items ++ replicate l.counter Not)
    × ((vec_len l.nodes ≡ vec_len l.initial.nodes + l.counter) × (vec_capacity l.nodes ≡ vec_capacity l.initial.nodes))
