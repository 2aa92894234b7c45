use Rattle.std.proofs.Common.{map, take}
use Rattle.std.specs.List.{filter}
use Rattle.std.specs.Option.{is_none}
use Rattle.chosen_parts.specs.Chosen.{position_place}
use Rattle.book_compare.specs.Searched.{AddsPlaces}
use Rattle.book_compare.proofs.positions.put_added.Given as goal

abbrev pub invariant-loop-place : goal.invariant-loop-place
invariant-loop-place l =
    AddsPlaces l.comparing.first.now l.comparing.second.now l.comparing.day (filter (λ id. is_none (position_place l.comparing.first.now id)) (map (λ p. p.id) (take l.place l.comparing.second.now.positions))) l.initial.places.items l.places.items
