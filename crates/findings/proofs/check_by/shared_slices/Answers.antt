use Rattle.findings.proofs.CheckLaws.{parts_checked, shown_each}
use Rattle.findings.proofs.check_by.shared_slices.Goals as goal

pub make_all-requires-clause-ready : goal.make_all-requires-clause-ready
make_all-requires-clause-ready g c κs lives = record { some = c.requires.some; budget = c.requires.budget }

pub put_down-requires : goal.put_down-requires
put_down-requires g c = record { shown = shown_each c.args.book.now c.args.effort c.args.slices.now c.in_ok-checks.checks.items c.in_ok-checks.ensures }

pub returns-clause-notes : goal.returns-clause-notes
returns-clause-notes g c =
    parts_checked c.args.book.now c.args.effort c.args.slices.now c.in_ok-checks.checks.items c.in_ok-all.all.notes.items c.in_ok-checks.ensures c.in_ok-all.ensures.notes
