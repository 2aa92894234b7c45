use Rattle.findings.specs.Answering.{inquiry}
use Rattle.findings.proofs.SliceLaws.{later_told, later_shown}
use Rattle.findings.proofs.SolverLaws.{over_onwards}
use Rattle.findings.proofs.slice.tell_later.Goals as goal

pub returns-clause-notes : goal.returns-clause-notes
returns-clause-notes c =
    let i = inquiry c.args.book.now c.args.task.effort in
    let s = c.args.task.slice in
    later_told i s c.args.later.now c.args.set c.in_ok-told.told c.ask_later.new.solver.kernel.clauses c.put_together.result
    c.requires.task.facts.order c.requires.void c.requires.later c.in_ok-told.ensures.told c.put_together.ensures.notes

pub returns-clause-proof : goal.returns-clause-proof
returns-clause-proof c =
    let i = inquiry c.args.book.now c.args.task.effort in
    let s = c.args.task.slice in
    let over = over_onwards c.args.book.now s c.args.solver.now c.ask_later.new.solver c.requires.over c.ask_later.ensures.onwards in
    later_shown i s c.args.later.now c.args.set c.in_ok-told.told c.ask_later.new.solver.kernel c.put_together.result
    c.requires.task.facts.order c.requires.void c.requires.counted c.requires.later over.stands c.in_ok-told.ensures.told c.put_together.ensures.notes c.put_together.ensures.shown
