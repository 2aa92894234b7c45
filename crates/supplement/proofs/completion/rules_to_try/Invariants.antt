-- The standing rules and those of the codes so far are to be tried, and the latter are marked.
use Rattle.supplement.proofs.WorklistLemmas.{HoldsUpTo}
use Rattle.supplement.proofs.completion.rules_to_try.Given as goal

abbrev pub invariant-loop-code : goal.invariant-loop-code
invariant-loop-code l = HoldsUpTo l.code l.supplements l.occurrences l.day l.set l.standing l.worklist l.marks
