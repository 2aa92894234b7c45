use Rattle.std.proofs.Common.{◌∙◌}
use Rattle.solver.proofs.LearnLaws.{lesson_of, kept_after, clear_after}
use Rattle.solver.proofs.analyze.analyze.Goals as goal

pub returns-clause-kept : goal.returns-clause-kept
returns-clause-kept c =
    kept_after c.args.kernel.now.clauses c.append.new.kernel.clauses c.args.engine.now c.args.resolution.now.marks.items c.unmark.new.marks.items c.in_ok-learnt.ensures.appended.clause
    c.requires.ready c.in_ok-learnt.ensures.appended.clauses c.in_ok-learnt.ensures.bounds (c.unmark.ensures.counted ∙ c.resolve_conflict.ensures.table)

pub returns-clause-learnt : goal.returns-clause-learnt
returns-clause-learnt c =
    lesson_of c.args.kernel.now c.append.new.kernel c.args.engine.now c.resolve_conflict.new.resolution.marks.items c.in_ok-place.place c.in_ok-place.ensures.trail c.requires.ready.attached c.requires.conflict.quiet
    c.in_ok-place.ensures.uip c.in_ok-learnt.ensures.appended

pub returns-clause-clear : goal.returns-clause-clear
returns-clause-clear c =
    clear_after c.args.kernel.now c.append.new.kernel c.resolve_conflict.new.resolution.marks.items c.unmark.new.marks.items c.lits.result.now c.pool-2.result.now.clauses c.in_ok-learnt.learnt
    c.in_ok-learnt.ensures.appended c.in_ok-learnt.ensures.place c.pool-2.ensures.clauses c.lits.ensures.clause c.unmark.ensures
