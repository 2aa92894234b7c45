use Rattle.std.proofs.Common.{◌≡◌, ◌++◌, drop, map}
use Rattle.clausify.specs.declared.question.Question.TheVariants.{Superfluous}
use Rattle.findings.proofs.questions.put_variants.Given as goal

abbrev pub invariant-loop-variant : goal.invariant-loop-variant
invariant-loop-variant l = l.questions.items ++ map Superfluous (drop l.variant-index l.variants) ≡ l.initial.questions.items ++ map Superfluous l.variants
