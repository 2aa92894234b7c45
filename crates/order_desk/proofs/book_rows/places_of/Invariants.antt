use Rattle.std.proofs.Common.{◌≡◌, map}
use Rattle.order_desk.proofs.book_rows.places_of.Given as goal

-- the rows so far have places
abbrev pub invariant-loop-row : goal.invariant-loop-row
invariant-loop-row l = map (λ p. p.row) l.places.items ≡ l.yielded
