use Rattle.std.proofs.Common.{◌≡◌, ◌+◌, ◌≤◌}
use Rattle.serve_tests.proofs.seats.take_seats.Given as goal

abbrev pub invariant-loop-i : goal.invariant-loop-i
invariant-loop-i g l = (l.pass.table ≡ l.book.table) × (60 ≤ l.pass.left + l.i)
