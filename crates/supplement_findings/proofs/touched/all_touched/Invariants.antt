use Rattle.std.proofs.Common.{length, take}
use Rattle.supplement_findings.specs.Answering.{AreTouched}
use Rattle.supplement_findings.proofs.touched.all_touched.Given as goal

abbrev pub invariant-loop-place : goal.invariant-loop-place
invariant-loop-place l = AreTouched (length l.book.codes) (take l.place l.construct-items) l.table.items
