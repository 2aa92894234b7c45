use Rattle.std.proofs.Common.{◌≡◌, ◌++◌, drop}
use Rattle.std.specs.List.{filter}
use Rattle.clausify.specs.Choices.{is_active_variant}
use Rattle.findings.proofs.questions.variants_on.Given as goal

abbrev pub invariant-loop-variant : goal.invariant-loop-variant
invariant-loop-variant l =
    l.variants.items ++ filter (is_active_variant l.book l.day) (drop l.variant-index l.variant-items) ≡ filter (is_active_variant l.book l.day) l.variant-items
