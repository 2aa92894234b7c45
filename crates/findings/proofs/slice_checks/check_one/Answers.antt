use Rattle.std.proofs.Common.{sym, subst}
use Rattle.findings.specs.Answering.{inquiry}
use Rattle.findings.specs.Notes.{SliceNotes}
use Rattle.findings.proofs.slice_checks.check_one.Goals as goal

pub returns-clause-checked : goal.returns-clause-checked
returns-clause-checked c = record {
  notes = subst (SliceNotes (inquiry c.args.book.now c.args.effort) c.args.slice) (sym c.in_ok-checked-2.ensures.notes) c.in_ok-checked.ensures.notes;
  shown = c.in_ok-checked-2.ensures.proof;
}
