-- What is left and what was handed on keep their usages.
use Rattle.std.proofs.Common.{All, length}
use Rattle.book_model.specs.Contents.{Contents}
use Rattle.slice_hints.specs.Found.{KnowsUsages}
use Rattle.slice_hints.proofs.sets.Sets.hand_on.Given as goal

abbrev pub invariant-loop-found : goal.invariant-loop-found
invariant-loop-found l = (b : Contents) → All (KnowsUsages b) l.initial.self-inside.found.items → All (KnowsUsages b) l.self-inside.found.items × All (KnowsUsages b) l.earlier.items

abbrev pub decreases-loop-found : goal.decreases-loop-found
decreases-loop-found l = length l.self-inside.found.items
