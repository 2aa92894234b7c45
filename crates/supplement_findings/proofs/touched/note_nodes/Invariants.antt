use Rattle.std.proofs.Common.{take}
use Rattle.std.specs.List.{list_any}
use Rattle.supplement.specs.Occurrences.{is_code}
use Rattle.supplement_findings.specs.Touching.{IsNoted}
use Rattle.supplement_findings.proofs.touched.note_nodes.Given as goal

abbrev pub invariant-loop-node : goal.invariant-loop-node
invariant-loop-node l = IsNoted l.place (λ c. list_any (is_code c) (take l.node-index l.nodes)) l.initial.table l.table
