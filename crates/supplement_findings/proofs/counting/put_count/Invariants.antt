use Rattle.std.proofs.Common.{◌≡◌, ◌+◌, ◌≤◌, length, drop}
use Rattle.std.specs.List.{filter}
use Rattle.supplement_findings.specs.Questions.{is_put}
use Rattle.supplement_findings.proofs.counting.put_count.Given as goal

abbrev pub invariant-loop-question : goal.invariant-loop-question
invariant-loop-question l =
    (l.count + length (filter (is_put l.book l.day) (drop l.question-index l.row)) ≡ length (filter (is_put l.book l.day) l.row))
    × (l.count ≤ l.question-index)
