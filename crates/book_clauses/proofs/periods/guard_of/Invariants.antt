-- The periods so far are others.
use Rattle.std.proofs.Common.{◌≡◌, ◌+◌, drop, length}
use Rattle.book_clauses.specs.BookClauses.{guard_from}
use Rattle.book_clauses.proofs.periods.guard_of.Given as goal

abbrev pub invariant-loop-period : goal.invariant-loop-period
invariant-loop-period l = record {
  var : l.var ≡ length l.book.codes + l.period-index;
  rest : guard_from (length l.book.codes) l.periods l.days
      ≡ guard_from (length l.book.codes + l.period-index) (drop l.period-index l.periods) l.days;
}
