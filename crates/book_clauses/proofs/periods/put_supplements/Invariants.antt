-- Those of the rules so far are known.
use Rattle.std.proofs.Common.{◌≡◌, ◌+◌, ◌≤◌, true, length, map, take}
use Rattle.book_model.specs.declared.record.Slice.{Slice}
use Rattle.book_clauses.specs.BookClauses.{AllHaveGuards, has_guard, supplement_days}
use Rattle.book_clauses.proofs.periods.put_supplements.Given as goal

abbrev pub invariant-loop-rule : goal.invariant-loop-rule
invariant-loop-rule l = record {
  few : length l.periods.items ≤ length l.initial.periods.items + l.rule-index;
  kept : (d : Slice) → has_guard l.book l.initial.periods.items d ≡ true → has_guard l.book l.periods.items d ≡ true;
  have : AllHaveGuards l.book l.periods.items (map supplement_days (take l.rule-index l.rules));
}
