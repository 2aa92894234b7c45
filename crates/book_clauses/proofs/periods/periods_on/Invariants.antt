-- What is said so far, and what is left to say.
use Rattle.std.proofs.Common.{◌≡◌, ◌+◌, ◌++◌, drop, length}
use Rattle.book_clauses.specs.BookClauses.{literals_on}
use Rattle.book_clauses.proofs.periods.periods_on.Given as goal

abbrev pub invariant-loop-period : goal.invariant-loop-period
invariant-loop-period l = record {
  var : l.var ≡ length l.book.codes + l.period-index;
  lits : l.lits.items ++ literals_on (length l.book.codes + l.period-index) (drop l.period-index l.periods) l.day
      ≡ literals_on (length l.book.codes) l.periods l.day;
}
