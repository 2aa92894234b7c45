use Rattle.std.proofs.Common.{sym, subst}
use Rattle.pb_base.specs.InParts.{InParts}
use Rattle.supplement_findings.specs.Answering.{inquiry}
use Rattle.supplement_findings.specs.Notes.{SliceNotes}
use Rattle.supplement_findings.proofs.SliceJoins.{all_tasks, whole_of_each}
use Rattle.supplement_findings.proofs.check.check_slices.Goals as goal

pub make_all-requires-clause-ready : goal.make_all-requires-clause-ready
make_all-requires-clause-ready g c κs lives = record { whole = c.requires.all; rules = c.requires.touched }

pub make_all-requires-clause-given : goal.make_all-requires-clause-given
make_all-requires-clause-given g c κs lives = all_tasks c.args.book.now c.args.budget c.args.slices.now c.requires.order c.requires.steady c.requires.some c.requires.most

pub returns : goal.returns
returns g c =
    let is_part = SliceNotes (inquiry c.args.book.now c.args.budget) in
    subst (InParts is_part c.args.slices.now) (sym c.in_ok-notes.ensures) (whole_of_each is_part c.args.slices.now c.in_ok-each.each.items c.in_ok-each.ensures)
