-- The literals of the variants so far.
use Rattle.std.proofs.Common.{ℕ, List, take}
use Rattle.book_clauses.specs.BookClauses.{AreUsages}
use Rattle.findings.specs.Core.{AssumesNone}
use Rattle.findings.proofs.assuming.assume_unused.Given as goal

abbrev pub invariant-loop-variant : goal.invariant-loop-variant
invariant-loop-variant l = (cs : List (List ℕ)) (vars : ℕ) → AreUsages l.book cs vars l.lits → AssumesNone l.book cs vars l.day (take l.variant-index l.variants) l.assumed.items
