use Rattle.findings.specs.Answering.{inquiry}
use Rattle.findings.specs.Notes.{SliceNotes}
use Rattle.findings.proofs.SharedLaws.{parts_joined}
use Rattle.findings.proofs.report_by.shared_notes.Goals as goal

pub make_all-requires-clause-ready : goal.make_all-requires-clause-ready
make_all-requires-clause-ready g c κs lives = record { some = c.requires.some; budget = c.requires.budget }

pub returns : goal.returns
returns g c =
    parts_joined (SliceNotes (inquiry c.args.book.now c.args.effort)) c.args.slices.now c.in_ok-reports.reports.items c.in_ok-notes.notes.items c.in_ok-reports.ensures
    c.in_ok-notes.ensures
