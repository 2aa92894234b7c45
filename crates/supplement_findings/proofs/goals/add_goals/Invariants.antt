use Rattle.std.proofs.Common.{◌≡◌, ◌+◌, ◌++◌, drop}
use Rattle.supplement_findings.specs.Clauses.{all_goal_clauses}
use Rattle.supplement_findings.proofs.goals.add_goals.Given as goal

abbrev pub invariant-loop-place : goal.invariant-loop-place
invariant-loop-place l =
    l.pool.clauses ++ all_goal_clauses (l.first_goal + l.place) (drop l.place l.all) ≡ l.initial.pool.clauses ++ all_goal_clauses l.first_goal l.all
