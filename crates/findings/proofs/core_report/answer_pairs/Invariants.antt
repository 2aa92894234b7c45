-- What is known of the slice.
use Rattle.findings.specs.Core.{IsKnown}
use Rattle.findings.proofs.core_report.answer_pairs.Given as goal

abbrev pub invariant-loop-place : goal.invariant-loop-place
invariant-loop-place l = IsKnown l.book l.asking l.sets l.solver
