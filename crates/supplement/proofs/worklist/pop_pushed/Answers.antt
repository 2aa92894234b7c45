-- The greatest of the reversed candidates is the first candidate.
use Rattle.std.proofs.lemmas.List.Sorted.{IsPermutation-map}
use Rattle.supplement.proofs.OccurrenceLemmas.{all_come_after}
use Rattle.supplement.proofs.worklist.pop_pushed.Goals as goal

pub returns-clause-moved : goal.returns-clause-moved
returns-clause-moved c = IsPermutation-map (λ r. r.0) _ _ c.in_ok-candidate.ensures.permutation

pub returns-clause-least : goal.returns-clause-least
returns-clause-least c = all_come_after c.in_ok-candidate.field-0 _ (c.in_ok-candidate.ensures.heap_order c.requires).1

pub returns-clause-first : goal.returns-clause-first
returns-clause-first c = all_come_after c.in_ok-candidate.field-0 _ (c.in_ok-candidate.ensures.below_top c.requires)
