use Rattle.std.proofs.Common.{◌≡◌, ◌++◌, drop}
use Rattle.order_days.specs.Days.{FitsBook}
use Rattle.order_days.specs.Joined.{joined_from, run_on, runs_on}
use Rattle.order_days.proofs.joining.joined_from.Given as goal

-- the runs that are done, then those that the current one makes with the slices that are left
abbrev pub invariant-loop-slice : goal.invariant-loop-slice
invariant-loop-slice l = record {
  joined : l.runs.items ++ joined_from l.book l.run (runs_on l.book l.names (drop l.slice-index l.rest)) ≡ joined_from l.book (run_on l.book l.names l.first) (runs_on l.book l.names l.rest);
  fits : FitsBook l.book l.run;
}
