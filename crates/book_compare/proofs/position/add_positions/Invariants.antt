use Rattle.std.proofs.Common.{drop}
use Rattle.book_compare.proofs.KeyRuns.{PlacesLeft}
use Rattle.book_compare.proofs.position.add_positions.Given as goal

abbrev pub invariant-loop-place : goal.invariant-loop-place
invariant-loop-place l = PlacesLeft l.comparing.first.now l.comparing.second.now l.comparing.day l.initial.asking l.asking l.goals.items l.places (drop l.place-index l.places)
