-- The questions so far are told of.
use Rattle.std.proofs.Common.{take, All}
use Rattle.slice_hints.specs.Found.{IsFound}
use Rattle.solver.specs.Solver.{Onwards}
use Rattle.findings.specs.Answering.{IsOver, AreTold, inquiry}
use Rattle.findings.proofs.slice.ask_each.Given as goal

abbrev pub invariant-loop-place : goal.invariant-loop-place
invariant-loop-place l = record {
  onwards : Onwards l.initial.solver l.solver;
  over : IsOver l.book l.task.slice l.solver;
  sets : All (IsFound l.book l.task.slice.first) l.sets;
  told : AreTold (inquiry l.book l.task.effort) l.task.slice (take l.place l.later) l.told l.solver.kernel.clauses;
}
