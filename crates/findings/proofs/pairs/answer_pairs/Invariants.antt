-- The kernel only grew, and the sets are those of the slice.
use Rattle.std.proofs.Common.{All}
use Rattle.slice_hints.specs.Found.{IsFound}
use Rattle.solver.specs.Solver.{Onwards}
use Rattle.findings.specs.Answering.{IsOver}
use Rattle.findings.proofs.pairs.answer_pairs.Given as goal

abbrev pub invariant-loop-place : goal.invariant-loop-place
invariant-loop-place l = record {
  onwards : Onwards l.initial.solver l.solver;
  over : IsOver l.book l.fn.task.slice l.solver;
  sets : All (IsFound l.book l.fn.task.slice.first) l.sets;
}
