use Rattle.std.proofs.Common.{◌≡◌, ◌++◌, drop}
use Rattle.std.specs.List.{flat_map}
use Rattle.clausify.specs.Choices.{choices_from}
use Rattle.book_compare.specs.JointItems.{day_variants}
use Rattle.book_compare.proofs.renaming.day_variants.Given as goal

abbrev pub invariant-loop-place : goal.invariant-loop-place
invariant-loop-place l = l.variants.items ++ flat_map (λ c. c.variants) (choices_from l.place l.book l.day (drop l.place l.position-items)) ≡ day_variants l.book l.day
