use Rattle.std.proofs.Common.{◌≡◌, ◌++◌, drop}
use Rattle.clausify.specs.Questions.{code_questions_from}
use Rattle.findings.proofs.questions.put_codes.Given as goal

abbrev pub invariant-loop-code : goal.invariant-loop-code
invariant-loop-code l = l.questions.items ++ code_questions_from l.code (drop l.code l.codes) ≡ l.initial.questions.items ++ code_questions_from 0 l.codes
