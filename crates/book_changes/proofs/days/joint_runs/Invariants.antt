use Rattle.std.proofs.Common.{◌≡◌, take}
use Rattle.book_changes.specs.Days.{joint_runs}
use Rattle.book_changes.proofs.days.joint_runs.Given as goal

abbrev pub invariant-loop-own : goal.invariant-loop-own
invariant-loop-own l = l.runs.items ≡ joint_runs (take l.own-index l.first) l.second
