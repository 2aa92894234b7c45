use Rattle.findings.specs.Answering.{inquiry}
use Rattle.findings.specs.Notes.{SliceNotes}
use Rattle.findings.proofs.SharedLaws.{parts_joined}
use Rattle.findings.proofs.check.report_slices.Goals as goal

pub returns : goal.returns
returns c =
    parts_joined (SliceNotes (inquiry c.args.book.now c.args.effort)) c.args.slices.now c.in_ok-reports.reports.items c.in_ok-notes.notes.items c.in_ok-reports.ensures
    c.in_ok-notes.ensures
