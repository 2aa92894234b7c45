use Rattle.std.proofs.Common.{◌+◌, length, take}
use Rattle.std.specs.List.{list_any}
use Rattle.supplement.specs.Occurrences.{is_code}
use Rattle.supplement_findings.proofs.NotedLaws.{any_next, below_at, none_yet, noted_none, noted_then}
use Rattle.supplement_findings.proofs.touched.note_nodes.Goals as goal

pub loop-node-init : goal.loop-node-init
loop-node-init c = noted_none c.args.place _ c.args.table.now (λ k. none_yet (is_code k) c.args.nodes.now)

pub note_node-requires : goal.note_node-requires
note_node-requires c =
    rw c.loop-node.invariant.counted (below_at (length c.args.table.now) c.args.nodes.now c.loop-node.node-index _ c.requires c.loop-node-test.true)

pub loop-node-preserved : goal.loop-node-preserved
loop-node-preserved c =
    let nodes = c.args.nodes.now in
    let i = c.loop-node.node-index in
    noted_then c.args.place (λ k. list_any (is_code k) (take i nodes)) _ (λ k. list_any (is_code k) (take (i + 1) nodes)) c.args.table.now c.loop-node.table c.note_node.new.table
    c.loop-node.invariant c.in_ok-note_node.ensures (λ k. any_next (is_code k) nodes i _ c.loop-node-test.true)
