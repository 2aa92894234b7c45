use Rattle.std.proofs.Common.{◌≡◌, ◌++◌}
use Rattle.std.specs.List.{flat_map}
use Rattle.clausify.specs.Choices.{choices}
use Rattle.clausify.specs.Questions.{choice_questions}
use Rattle.clausify.proofs.Remaining.{choices_left}
use Rattle.findings.proofs.questions.put_choices.Given as goal

abbrev pub invariant-loop-place : goal.invariant-loop-place
invariant-loop-place l =
    l.questions.items ++ flat_map choice_questions (choices_left l.book l.day l.position-items l.place) ≡ l.initial.questions.items ++ flat_map choice_questions (choices l.book l.day)
