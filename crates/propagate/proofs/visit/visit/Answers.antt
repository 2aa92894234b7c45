use Rattle.std.proofs.Common.{subst, sym}
use Rattle.clause_pool.specs.Literal.{complement}
use Rattle.propagate.specs.Watching.{Watching, Keeps}
use Rattle.propagate.specs.Visiting.{scene}
use Rattle.propagate.proofs.LookLaws.{keeps_twice, keeps_codes, grown_has, at_first, stopped, can_watch_at, fresh_not}
use Rattle.propagate.proofs.visit.visit.Goals as goal

pub loop-at-init : goal.loop-at-init
loop-at-init c = at_first c.args.assignment.now c.args.watched.now c.args.code

pub loop-at-preserved : goal.loop-at-preserved
loop-at-preserved c =
    let h = c.in-Shift.ensures.passes c.loop-at.invariant.before in
    stopped (scene c.args.assignment.now c.args.watched.now) (scene c.loop-at.assignment c.loop-at.watched) c.go_through.new.assignment c.shift.new.self c.args.code c.loop-at.from c.in-Shift.at c.in-Shift.other c.in-Shift.fresh
    c.loop-at.invariant c.go_through.ensures.keeps h c.in_ok-shift-in-Shift.ensures.shifted (c.in_ok-shift-in-Shift.ensures.watches h.entry h.is_entry)

pub shift-requires-clause-there : goal.shift-requires-clause-there
shift-requires-clause-there c = (c.in-Shift.ensures.passes c.loop-at.invariant.before).there

pub shift-requires-clause-other_in : goal.shift-requires-clause-other_in
shift-requires-clause-other_in c = λ e found.
    (can_watch_at (scene c.go_through.new.assignment c.loop-at.watched) c.args.code c.loop-at.from c.in-Shift.at c.in-Shift.other c.in-Shift.fresh (c.in-Shift.ensures.passes c.loop-at.invariant.before) e found).other_in

pub shift-requires-clause-fresh_in : goal.shift-requires-clause-fresh_in
shift-requires-clause-fresh_in c = λ e found.
    (can_watch_at (scene c.go_through.new.assignment c.loop-at.watched) c.args.code c.loop-at.from c.in-Shift.at c.in-Shift.other c.in-Shift.fresh (c.in-Shift.ensures.passes c.loop-at.invariant.before) e found).is_in

pub shift-requires-clause-apart : goal.shift-requires-clause-apart
shift-requires-clause-apart c = (c.in-Shift.ensures.passes c.loop-at.invariant.before).can_watch.apart

pub shift-requires-clause-other_not_code : goal.shift-requires-clause-other_not_code
shift-requires-clause-other_not_code c = (c.in-Shift.ensures.passes c.loop-at.invariant.before).can_watch.not_code

pub shift-requires-clause-not_code : goal.shift-requires-clause-not_code
shift-requires-clause-not_code c =
    fresh_not c.go_through.new.assignment.lits c.args.code c.in-Shift.fresh
    (grown_has c.loop-at.assignment c.go_through.new.assignment (complement c.args.code) c.go_through.ensures.keeps.grown (grown_has c.args.assignment.now c.loop-at.assignment (complement c.args.code) c.loop-at.invariant.keeps.grown c.requires.is_false))
    (c.in-Shift.ensures.passes c.loop-at.invariant.before).can_watch.not_false

pub returns-in_err-shift-in-Shift-clause-keeps : goal.returns-in_err-shift-in-Shift-clause-keeps
returns-in_err-shift-in-Shift-clause-keeps c =
    subst (λ (x : Watching). Keeps c.args.assignment.now c.go_through.new.assignment c.args.watched.now x) (sym c.in_err-shift-in-Shift.ensures.err)
    (keeps_twice c.args.assignment.now c.loop-at.assignment c.go_through.new.assignment c.args.watched.now c.loop-at.watched c.loop-at.watched c.loop-at.invariant.keeps c.go_through.ensures.keeps)

pub returns-in-Done-clause-keeps : goal.returns-in-Done-clause-keeps
returns-in-Done-clause-keeps c =
    keeps_twice c.args.assignment.now c.loop-at.assignment c.go_through.new.assignment c.args.watched.now c.loop-at.watched c.loop-at.watched c.loop-at.invariant.keeps c.go_through.ensures.keeps

pub returns-in-Conflict-clause-keeps : goal.returns-in-Conflict-clause-keeps
returns-in-Conflict-clause-keeps c =
    keeps_twice c.args.assignment.now c.loop-at.assignment c.go_through.new.assignment c.args.watched.now c.loop-at.watched c.loop-at.watched c.loop-at.invariant.keeps c.go_through.ensures.keeps

pub shift-requires-clause-fresh_list : goal.shift-requires-clause-fresh_list
shift-requires-clause-fresh_list c = (c.in-Shift.ensures.passes c.loop-at.invariant.before).can_watch.below
