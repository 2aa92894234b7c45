use Rattle.std.proofs.Common.{◌≡◌, drop}
use Rattle.std.specs.List.{position_from}
use Rattle.pb_base.specs.Names.{same_name}
use Rattle.chosen_parts.specs.Chosen.{position_place}
use Rattle.chosen_parts.proofs.place.find_position.Given as goal

-- what is found is found in the positions that are left
abbrev pub invariant-loop-place : goal.invariant-loop-place
invariant-loop-place l = position_place l.book l.id ≡ position_from (λ p. same_name p.id l.id) l.place (drop l.place l.book.positions)
