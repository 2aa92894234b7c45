use Rattle.std.proofs.Common.{◌≡◌, ◌+◌, ◌*◌, ◌≤◌, length}
use Rattle.std.specs.List.{flat_map}
use Rattle.clausify.specs.Questions.{choice_questions, questions}
use Rattle.clausify.proofs.Remaining.{choices_left}
use Rattle.clausify.proofs.counting.question_count.Given as goal

abbrev pub invariant-loop-place : goal.invariant-loop-place
invariant-loop-place l = record {
  total : l.count + length (flat_map choice_questions (choices_left l.book l.slice.first l.position-items l.place)) ≡ length (questions l.book l.slice.first);
  limit : l.count ≤ 4001 + 20101 * l.place;
}
