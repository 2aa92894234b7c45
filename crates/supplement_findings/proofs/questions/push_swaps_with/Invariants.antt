use Rattle.std.proofs.Common.{◌≡◌, ◌+◌, ◌++◌, suc, drop}
use Rattle.supplement_findings.specs.Questions.{swaps_with_later}
use Rattle.supplement_findings.proofs.questions.push_swaps_with.Given as goal

abbrev pub invariant-loop-behind : goal.invariant-loop-behind
invariant-loop-behind l =
    l.questions.items ++ swaps_with_later l.place l.rule (suc l.place + l.behind) (drop l.behind l.later)
    ≡ l.initial.questions.items ++ swaps_with_later l.place l.rule (suc l.place) l.later
