use Rattle.std.proofs.Common.{◌≡◌, ◌++◌, drop}
use Rattle.std.specs.List.{filter}
use Rattle.supplement_findings.specs.Questions.{is_put}
use Rattle.supplement_findings.proofs.questions.questions_on.Given as goal

abbrev pub invariant-loop-question : goal.invariant-loop-question
invariant-loop-question l = l.put.items ++ filter (is_put l.book l.day) (drop l.question-index l.all) ≡ filter (is_put l.book l.day) l.all
