use Rattle.std.proofs.Common.{◌≡◌, drop, map}
use Rattle.std.specs.List.{filter, slice_get}
use Rattle.book_model.specs.Parts.{is_selected_at}
use Rattle.chosen_parts.specs.Chosen.{part_use}
use Rattle.chosen_parts.proofs.chosen.first_selected.Given as goal

-- the first one is among the variants that are left
abbrev pub invariant-loop-at : goal.invariant-loop-at
invariant-loop-at l =
    slice_get (map (part_use l.book) (filter (is_selected_at l.book l.day l.set) (drop l.at-index l.at-items))) 0
    ≡ slice_get (map (part_use l.book) (filter (is_selected_at l.book l.day l.set) l.at-items)) 0
