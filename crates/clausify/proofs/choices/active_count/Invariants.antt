use Rattle.std.proofs.Common.{◌≡◌, ◌+◌, ◌≤◌, length, drop}
use Rattle.std.specs.List.{filter}
use Rattle.clausify.specs.Choices.{is_active_variant}
use Rattle.clausify.proofs.choices.active_count.Given as goal

abbrev pub invariant-loop-variant : goal.invariant-loop-variant
invariant-loop-variant l =
    (l.count + length (filter (is_active_variant l.book l.day) (drop l.variant-index l.variant-items)) ≡ length (filter (is_active_variant l.book l.day) l.variant-items))
    × (l.count ≤ l.variant-index)
