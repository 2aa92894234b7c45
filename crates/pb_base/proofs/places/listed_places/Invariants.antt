use Rattle.std.proofs.Common.{◌≡◌, ◌++◌, drop}
use Rattle.pb_base.specs.Places.{places_of}
use Rattle.pb_base.proofs.places.listed_places.Given as goal

abbrev pub invariant-loop-name : goal.invariant-loop-name
invariant-loop-name l = l.places.items ++ places_of l.codes (drop l.name-index l.names) ≡ places_of l.codes l.names
