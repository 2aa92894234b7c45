-- The codes so far and those that are left make the number, and no second code was found.
use Rattle.std.proofs.Common.{◌≡◌, ◌≤◌, ◌+◌, drop}
use Rattle.book_model.specs.Good.{present}
use Rattle.book_model.proofs.demand.count_to_two.Given as goal

abbrev pub invariant-loop-code : goal.invariant-loop-code
invariant-loop-code l = record {
  counted : l.found + present l.set (drop l.code-index l.codes) ≡ present l.set l.codes;
  few : l.found ≤ 1;
}
