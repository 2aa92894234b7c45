use Rattle.findings.specs.Answering.{inquiry}
use Rattle.findings.specs.Core.{AreToldOf, later_questions}
use Rattle.findings.proofs.CoreTold.{slice_of_core}
use Rattle.findings.proofs.core_report.tell_behind.Goals as goal

pub returns-in_ok-notes-in-Some-clause-notes : goal.returns-in_ok-notes-in-Some-clause-notes
returns-in_ok-notes-in-Some-clause-notes c =
    let s = c.args.asking.task.slice in
    let i = inquiry c.args.book.now c.args.asking.task.effort in
    let own : AreToldOf i s (later_questions c.args.book.now s.first) c.in-Some.own.items = rw c.in-Some.is at c.in_ok-told.ensures.told in
    slice_of_core i s c.in-Some.own.items c.in_ok-notes-in-Some.notes.items c.requires.some own c.in_ok-notes-in-Some.ensures
