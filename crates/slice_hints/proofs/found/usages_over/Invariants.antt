use Rattle.std.proofs.Common.{◌≡◌, map, take}
use Rattle.pb_base.specs.Rule.{holds}
use Rattle.slice_hints.proofs.found.usages_over.Given as goal

abbrev pub invariant-loop-variant : goal.invariant-loop-variant
invariant-loop-variant l = l.usages.items ≡ map (λ v. holds v.rule l.set) (take l.variant-index l.variants)
