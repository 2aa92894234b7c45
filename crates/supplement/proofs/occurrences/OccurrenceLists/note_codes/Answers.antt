-- Each node of the list is a code of the formula or none, and each code is one of them.
use Rattle.std.proofs.Common.{◌≡◌, ◌+◌, length, true, take, drop, sym, ap, subst, refl, ◌∙◌, arith}
use Rattle.std.specs.List.{list_any}
use Rattle.std.proofs.lemmas.List.{take_all}
use Rattle.pb_base.specs.Node.{are_below}
use Rattle.pb_base.proofs.Nodes.{are_below-nodes_of, node_below, step_below}
use Rattle.supplement.specs.Occurrences.{occurs, is_code}
use Rattle.supplement.proofs.OccurrenceLemmas.{notes_next, notes_fewer, is_among}
use Rattle.supplement.proofs.occurrences.OccurrenceLists.note_codes.Goals as goal

pub note_node-requires : goal.note_node-requires
note_node-requires c =
    let ns = c.nodes-node-items.result.now in
    let n = length c.loop-node.self.heads.items in
    let below : are_below n ns ≡ true =
    subst (λ m. are_below m ns ≡ true) (sym c.loop-node.invariant.same_codes) (are_below-nodes_of (length c.args.self.now.heads.items) c.args.formula.now ns c.nodes-node-items.ensures c.requires) in
    let at = c.loop-node.node-index in
    let from_start : 0 + at ≡ at = omega arith in
    node_below n ns at _ _ (omega arith) refl (subst (λ k. are_below n (drop k ns) ≡ true) from_start (step_below n ns 0 at below))

pub loop-node-preserved : goal.loop-node-preserved
loop-node-preserved c =
    notes_next c.args.self.now c.loop-node.self c.note_node.new.self c.args.rule c.loop-node.node-index c.nodes-node-items.result.now _ _ (omega arith) refl c.loop-node.invariant c.in_ok-note_node.ensures

pub returns : goal.returns
returns c =
    let ns = c.nodes-node-items.result.now in
    let whole : take c.loop-node.node-index ns ≡ ns = take_all c.loop-node.node-index ns (omega arith) in
    notes_fewer c.args.self.now c.loop-node.self c.args.rule (λ k. list_any (is_code k) (take c.loop-node.node-index ns)) (λ k. occurs k c.args.formula.now)
    (λ k on. ap (list_any (is_code k)) whole ∙ is_among k c.args.formula.now ns c.nodes-node-items.ensures on) c.loop-node.invariant
