-- The rule was noted at each code of the nodes so far.
use Rattle.std.proofs.Common.{take}
use Rattle.std.specs.List.{list_any}
use Rattle.supplement.specs.Occurrences.{Notes, is_code}
use Rattle.supplement.proofs.occurrences.OccurrenceLists.note_codes.Given as goal

abbrev pub invariant-loop-node : goal.invariant-loop-node
invariant-loop-node l = Notes l.fn.self l.self l.rule (λ c. list_any (is_code c) (take l.node-index l.node-items))
