use Rattle.std.proofs.Common.{◌≤◌}
use Rattle.solver.specs.Marks.{NoneMarked}
use Rattle.solver.proofs.marks.last_marked.Given as goal

abbrev pub invariant-loop-place : goal.invariant-loop-place
invariant-loop-place l = (l.place ≤ l.end) × NoneMarked l.lits l.marks l.place l.end

abbrev pub decreases-loop-place : goal.decreases-loop-place
decreases-loop-place l = l.place
