use Rattle.std.proofs.Common.{◌≡◌, ◌≤◌, length}
use Rattle.propagate.specs.Assignment.{OpensBehind}
use Rattle.propagate.proofs.assignment.open_behind.Given as goal

abbrev pub invariant-loop-at : goal.invariant-loop-at
invariant-loop-at l = record {
  behind : l.end ≤ l.at;
  within : l.at ≤ length l.lits;
  counted : length l.values ≡ length l.initial.values;
  opened : OpensBehind l.initial.values l.values l.lits l.end l.at;
}

abbrev pub decreases-loop-at : goal.decreases-loop-at
decreases-loop-at l = l.at
