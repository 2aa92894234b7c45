-- The questions so far are told of.
use Rattle.std.proofs.Common.{take}
use Rattle.findings.specs.Answering.{inquiry}
use Rattle.findings.specs.Core.{AreToldOf, IsKnown}
use Rattle.findings.proofs.core_report.ask_each.Given as goal

abbrev pub invariant-loop-question : goal.invariant-loop-question
invariant-loop-question l = record {
  known : IsKnown l.book l.asking l.sets l.solver;
  told : AreToldOf (inquiry l.book l.asking.task.effort) l.asking.task.slice (take l.question-index l.questions) l.notes.items;
}
