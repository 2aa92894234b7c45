-- The rules from the head up to here are marked, and those that fire are in the worklist.
use Rattle.std.proofs.Common.{suc, None, get_or}
use Rattle.std.specs.Option.{option_map_or}
use Rattle.supplement.proofs.OccurrenceLemmas.{IsAdding}
use Rattle.supplement.proofs.occurrences.OccurrenceLists.add_rules_of.Given as goal

abbrev pub invariant-loop-at : goal.invariant-loop-at
invariant-loop-at l = IsAdding l.supplements l.day l.set l.self.entries.items (get_or l.self.heads.items l.code None) l.fn.worklist l.worklist l.fn.marks l.marks l.at

abbrev pub decreases-loop-at : goal.decreases-loop-at
decreases-loop-at l = option_map_or (λ k. suc k) l.at 0
