-- What is left of the list is passed over node by node.
use Rattle.std.proofs.Common.{◌≡◌, ◌+◌, ◌∙◌, length, arith, sym, ap, true}
use Rattle.std.proofs.lemmas.List.{drop_all}
use Rattle.pb_base.specs.Rule.{holds, codes_below}
use Rattle.pb_base.specs.Node.{rule_of}
use Rattle.pb_base.proofs.Nodes.{run, run_whole, are_below-nodes_of, step_run, step_below, node_below}
use Rattle.pb_base.proofs.formula.Formula.holds.Goals as goal

pub loop-at-init : goal.loop-at-init
loop-at-init c =
    let ns = c.self.inside.nodes.items in
    let below : codes_below (length c.args.set.now) (rule_of ns) ≡ true = ap (codes_below (length c.args.set.now)) c.self.view_is ∙ c.requires in (
      run_whole c.args.set.now (rule_of ns) ns c.self.invariant ∙ ap (λ f. holds f c.args.set.now) c.self.view_is,
      are_below-nodes_of (length c.args.set.now) (rule_of ns) ns c.self.invariant below,
    )

pub value_after-value-requires : goal.value_after-value-requires
value_after-value-requires c =
    node_below (length c.args.set.now) c.self.inside.nodes.items c.loop-at.at c.index-node.result.now c.index-node.result.now (omega arith) (sym c.index-node.ensures) c.loop-at.invariant.1

pub loop-at-preserved : goal.loop-at-preserved
loop-at-preserved c =
    let ns = c.self.inside.nodes.items in
    let node = c.index-node.result.now in
    let step = step_run c.args.set.now c.loop-at.value ns c.loop-at.at node node (omega arith) (sym c.index-node.ensures) in (
      rw (c.value_after-value.ensures, c.skip_after-skip.ensures) (sym step ∙ c.loop-at.invariant.0),
      step_below (length c.args.set.now) ns c.loop-at.at (1 + c.skip_after-skip.result) c.loop-at.invariant.1,
    )

pub returns : goal.returns
returns c =
    let ns = c.self.inside.nodes.items in
    let none = drop_all c.loop-at.at ns (omega arith) in
    sym (ap (run c.args.set.now c.loop-at.value 0) none) ∙ c.loop-at.invariant.0
