use Rattle.std.proofs.Common.{◌≡◌, map, length, drop, []}
use Rattle.book_text.specs.Group.{names_in, are_codes_behind}
use Rattle.book_text.proofs.group.is_group.Given as goal

-- the names are those that were taken, and the others are tested behind them
abbrev pub invariant-loop-name : goal.invariant-loop-name
invariant-loop-name l = record {
  next : (goal.iterator-loop-name).can_next l.name-iterator;
  ends : (goal.iterator-loop-name).is_finite l.name-iterator;
  taken : l.names.items ≡ l.yielded;
  rest : are_codes_behind (map (λ n. n.now) l.yielded) (drop (length l.yielded) (names_in l.text)) ≡ are_codes_behind [] (names_in l.text);
}
