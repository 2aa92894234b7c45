-- Whether two outcomes are told alike.
--     is_same_set x y           the same codes
--     are_same_uses us vs       the same parts, and as many of each
--     are_same_parts ps qs      the same at each position
--     is_told_same s t          the same in all
use Rattle.std.specs.Prelude.{Bool, false, ◌&&◌, ◌==◌, List}
use Rattle.std.specs.Bool.{beq}
use Rattle.std.specs.Cmp.Lexicographic.{pointwise}
use Rattle.chosen_parts.specs.Chosen.{is_same_use}
use Rattle.chosen_parts.specs.declared.part_use.PartUse.{PartUse}
use Rattle.order_days.specs.Days.{Told, builds, refuses, misfits}

abbrev pub is_same_set : List Bool → List Bool → Bool
is_same_set = pointwise beq

abbrev pub are_same_uses : List PartUse → List PartUse → Bool
are_same_uses = pointwise is_same_use

abbrev pub are_same_parts : List (List PartUse) → List (List PartUse) → Bool
are_same_parts = pointwise are_same_uses

abbrev pub is_told_same : Told → Told → Bool
is_told_same (builds x ps) (builds y qs) = is_same_set x y && are_same_parts ps qs
is_told_same (builds x ps) (refuses s) = false
is_told_same (builds x ps) (misfits q d) = false
is_told_same (refuses r) (builds y qs) = false
is_told_same (refuses r) (refuses s) = r == s
is_told_same (refuses r) (misfits q d) = false
is_told_same (misfits p c) (builds y qs) = false
is_told_same (misfits p c) (refuses s) = false
is_told_same (misfits p c) (misfits q d) = p == q && c == d
