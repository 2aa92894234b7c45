use Rattle.std.proofs.Common.{◌≡◌, ◌+◌, ◌≤◌, ◌++◌, drop, length}
use Rattle.book_compare.specs.Numbering.{numbers_from, numbers_of, further}
use Rattle.book_compare.proofs.numbering.Numbering.of.Given as goal

abbrev pub invariant-loop-place : goal.invariant-loop-place
invariant-loop-place l = record {
  numbers : l.numbers.items ++ numbers_from l.next l.first (drop l.place l.second) ≡ numbers_of l.first l.second;
  further : l.next + further l.first (drop l.place l.second) ≡ l.behind + further l.first l.second;
  few : l.next ≤ l.behind + l.place;
  behind : l.behind ≡ length l.first + 1;
}
