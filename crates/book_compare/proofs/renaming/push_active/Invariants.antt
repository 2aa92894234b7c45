use Rattle.std.proofs.Common.{◌≡◌, ◌++◌, drop}
use Rattle.std.specs.List.{filter}
use Rattle.clausify.specs.Choices.{is_active_variant}
use Rattle.book_compare.proofs.renaming.push_active.Given as goal

abbrev pub invariant-loop-at : goal.invariant-loop-at
invariant-loop-at l =
    l.variants.items ++ filter (is_active_variant l.book l.day) (drop l.at-index l.at-items) ≡ l.initial.variants.items ++ filter (is_active_variant l.book l.day) l.at-items
