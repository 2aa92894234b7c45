use Rattle.std.proofs.Common.{rules, arith}
use Rattle.propagate.proofs.LookLaws.{keeps_not, keeps_grown, binary_reason, reason_conflict, binary_is}
use Rattle.propagate.proofs.visit.look.Goals as goal

pub is_true-requires : goal.is_true-requires
is_true-requires c =
    let b = c.requires.watching.below c.args.entry.clause c.args.entry.blocker c.requires.fits.blocks in
    omega (arith, b, c.requires.codes)

pub put_last-requires : goal.put_last-requires
put_last-requires c =
    let b = c.requires.watching.below c.args.entry.clause c.args.entry.blocker c.requires.fits.blocks in
    omega (arith, b, c.requires.codes)

pub returns-then-is_true-clause-keeps : goal.returns-then-is_true-clause-keeps
returns-then-is_true-clause-keeps c = keeps_not c.args.assignment.now c.args.watched.now

pub returns-then-is_true-clause-looks : goal.returns-then-is_true-clause-looks
returns-then-is_true-clause-looks c = (c.args.entry.blocker, c.requires.fits.blocks, search rules)

pub returns-then-put_last-clause-keeps : goal.returns-then-put_last-clause-keeps
returns-then-put_last-clause-keeps c =
    let reason = binary_reason c.args.assignment.now c.args.watched.now c.args.code c.args.entry c.requires.fits (binary_is c.args.entry.is_binary c.if-not-entry.false) c.requires.is_false in
    keeps_grown c.args.assignment.now c.put_last.new.assignment c.args.watched.now c.put_last.ensures.grown (c.put_last.ensures.reasoned c.args.watched.now.clauses reason)

pub returns-then-put_last-clause-looks : goal.returns-then-put_last-clause-looks
returns-then-put_last-clause-looks c = (c.args.entry.blocker, c.requires.fits.blocks, c.if-put_last.ensures.put)

pub returns-clause-keeps : goal.returns-clause-keeps
returns-clause-keeps c =
    let reason = binary_reason c.args.assignment.now c.args.watched.now c.args.code c.args.entry c.requires.fits (binary_is c.args.entry.is_binary c.if-not-entry.false) c.requires.is_false in
    keeps_grown c.args.assignment.now c.put_last.new.assignment c.args.watched.now c.put_last.ensures.grown (c.put_last.ensures.reasoned c.args.watched.now.clauses reason)

pub returns-clause-looks : goal.returns-clause-looks
returns-clause-looks c =
    let reason = binary_reason c.args.assignment.now c.args.watched.now c.args.code c.args.entry c.requires.fits (binary_is c.args.entry.is_binary c.if-not-entry.false) c.requires.is_false in
    reason_conflict c.args.assignment.now c.put_last.new.assignment c.args.watched.now c.args.entry.blocker c.args.entry.clause reason c.if-put_last.ensures.unchanged c.if-put_last.ensures.is_false
