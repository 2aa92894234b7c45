-- The heap has the candidate beside what it had.
use Rattle.std.proofs.lemmas.List.Sorted.{IsPermutation-map}
use Rattle.supplement.proofs.WorklistLemmas.{push_behind}
use Rattle.supplement.proofs.worklist.Worklist.push.Goals as goal

pub returns : goal.returns
returns c = rw (← c.self.view_is) (push_behind c.self.inside.standing.now c.args.candidate _ _ (IsPermutation-map (λ r. r.0) _ _ c.in_ok-push.ensures.permutation))
