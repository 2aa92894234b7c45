use Rattle.std.proofs.Common.{rules, sym, ap, ◌∙◌}
use Rattle.std.proofs.lemmas.Slice.Eq.{slice_eq-Decides}
use Rattle.pb_base.specs.Node.{rule_of}
use Rattle.pb_base.proofs.Nodes.{rule_of-nodes_of}
use Rattle.chosen_parts.specs.Chosen.{use_of}
use Rattle.chosen_parts.proofs.UseLaws.{same_from_test}
use Rattle.book_compare.proofs.same.same_variant.Goals as goal

pub returns : goal.returns
returns c = λ equal. record {
  part = same_from_test (use_of c.args.own.now) (use_of c.args.other.now) (sym c.same_use.ensures ∙ c.if-not-same_use.false);
  rule =
      sym (rule_of-nodes_of c.args.own.now.rule)
      ∙ ap rule_of (sym c.nodes.ensures ∙ (slice_eq-Decides (λ a b. search rules) _ _ _ c.eq.ensures).0 equal ∙ c.nodes-2.ensures)
      ∙ rule_of-nodes_of c.in_ok-renamed.renamed
      ∙ c.in_ok-renamed.ensures;
}
