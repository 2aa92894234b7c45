use Rattle.std.proofs.Common.{◌≡◌, ℕ, ◌++◌, drop, map}
use Rattle.clausify.specs.declared.question.Question.TheVariants.{Ambiguous}
use Rattle.findings.proofs.questions.put_with.Given as goal

abbrev pub invariant-loop-second : goal.invariant-loop-second
invariant-loop-second l =
    l.questions.items ++ map (λ (y : ℕ). Ambiguous l.position l.first y) (drop l.second-index l.others) ≡ l.initial.questions.items ++ map (λ (y : ℕ). Ambiguous l.position l.first y) l.others
