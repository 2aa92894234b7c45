use Rattle.std.proofs.Common.{map, take}
use Rattle.book_compare.specs.Searched.{AddsPlaces}
use Rattle.book_compare.proofs.positions.put_first.Given as goal

abbrev pub invariant-loop-place : goal.invariant-loop-place
invariant-loop-place l = AddsPlaces l.comparing.first.now l.comparing.second.now l.comparing.day (map (λ p. p.id) (take l.place l.comparing.first.now.positions)) l.initial.places.items l.places.items
