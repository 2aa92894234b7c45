use Rattle.std.proofs.Common.{◌≡◌, ℕ, ◌*◌, ◌<◌, true, take}
use Rattle.clause_pool.specs.Clause.{has}
use Rattle.book_tests.proofs.trails.are_below.Given as goal

abbrev pub invariant-loop-lit : goal.invariant-loop-lit
invariant-loop-lit l = (code : ℕ) → has (take l.lit-index l.lits) code ≡ true → code < 2 * l.vars
