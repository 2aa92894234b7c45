use Rattle.std.proofs.Common.{◌≡◌, ◌<◌, Some, length, subst, sym, ◌∙◌, ap, arith}
use Rattle.std.specs.List.{slice_get}
use Rattle.propagate.specs.Watching.{list_of}
use Rattle.propagate.specs.declared.watch.Watch.{Watch}
use Rattle.propagate.proofs.WatchLaws.{entry_found}
use Rattle.propagate.proofs.LookLaws.{keeps_twice, going_first, going_on, going_stops}
use Rattle.propagate.proofs.visit.go_through.Goals as goal

pub loop-at-init : goal.loop-at-init
loop-at-init c = going_first c.args.assignment.now c.args.watched.now c.args.code c.args.from c.requires.from

pub loop-at-preserved : goal.loop-at-preserved
loop-at-preserved c =
    let there : c.loop-at.at < length (list_of c.args.watched.now c.args.code) = omega (arith, c.loop-at-test.true, ap length c.entries-entries.ensures.entries) in
    let found = subst (λ (x : Watch). slice_get (list_of c.args.watched.now c.args.code) c.loop-at.at ≡ Some x) (sym (c.watch-entry.ensures.value ∙ c.index-entries-at.is))
    (entry_found c.entries-entries.result.now (list_of c.args.watched.now c.args.code) c.loop-at.at c.index-entries-at.result c.entries-entries.ensures.entries there) in
    going_on c.args.assignment.now c.loop-at.assignment c.look.new.assignment c.args.watched.now c.args.code c.args.from c.loop-at.at c.watch-entry.result c.loop-at.invariant c.look.ensures.keeps found c.in-Kept.ensures.looks

pub returns-in-Fresh-clause-keeps : goal.returns-in-Fresh-clause-keeps
returns-in-Fresh-clause-keeps c =
    keeps_twice c.args.assignment.now c.loop-at.assignment c.look.new.assignment c.args.watched.now c.args.watched.now c.args.watched.now c.loop-at.invariant.keeps c.look.ensures.keeps

pub returns-in-Fresh-clause-passes : goal.returns-in-Fresh-clause-passes
returns-in-Fresh-clause-passes c =
    let there : c.loop-at.at < length (list_of c.args.watched.now c.args.code) = omega (arith, c.loop-at-test.true, ap length c.entries-entries.ensures.entries) in
    let found = subst (λ (x : Watch). slice_get (list_of c.args.watched.now c.args.code) c.loop-at.at ≡ Some x) (sym (c.watch-entry.ensures.value ∙ c.index-entries-at.is))
    (entry_found c.entries-entries.result.now (list_of c.args.watched.now c.args.code) c.loop-at.at c.index-entries-at.result c.entries-entries.ensures.entries there) in
    going_stops c.args.assignment.now c.loop-at.assignment c.look.new.assignment c.args.watched.now c.args.code c.args.from c.loop-at.at c.in-Fresh.other c.in-Fresh.fresh c.watch-entry.result c.loop-at.invariant c.look.ensures.keeps found c.in-Fresh.ensures.looks

pub returns-in-Conflict-clause-keeps : goal.returns-in-Conflict-clause-keeps
returns-in-Conflict-clause-keeps c =
    keeps_twice c.args.assignment.now c.loop-at.assignment c.look.new.assignment c.args.watched.now c.args.watched.now c.args.watched.now c.loop-at.invariant.keeps c.look.ensures.keeps
