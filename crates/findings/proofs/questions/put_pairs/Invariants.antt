use Rattle.std.proofs.Common.{◌≡◌, ◌++◌, drop, map}
use Rattle.clausify.specs.Pairs.{pairs}
use Rattle.findings.proofs.QuestionSteps.{pair_question}
use Rattle.findings.proofs.questions.put_pairs.Given as goal

abbrev pub invariant-loop-place : goal.invariant-loop-place
invariant-loop-place l =
    l.questions.items ++ map (pair_question l.position) (pairs (drop l.place l.variants)) ≡ l.initial.questions.items ++ map (pair_question l.position) (pairs l.variants)
