use Rattle.std.proofs.Common.{ap, sym, subst, arith}
use Rattle.chains.specs.Growth.{given_of}
use Rattle.solver.specs.Answer.{Begins, IsCore}
use Rattle.solver.specs.Solver.{Onwards, Solving}
use Rattle.findings.specs.Answering.{inquiry}
use Rattle.findings.specs.Core.{OwnOf}
use Rattle.findings.specs.Outcomes.{notes_of}
use Rattle.findings.specs.declared.outcome.Outcome.{Outcome}
use Rattle.findings.proofs.Lifting.{on_first}
use Rattle.findings.proofs.CoreLaws.{asks_onwards, begins_onwards, clash_false}
use Rattle.findings.proofs.AssumeLaws.{clash_when, consistent_when}
use Rattle.findings.proofs.CoreTold.{none_told, set_told}
use Rattle.findings.proofs.core_report.seek.Goals as goal

pub returns-then-not-are_consistent-clause-told : goal.returns-then-not-are_consistent-clause-told
returns-then-not-are_consistent-clause-told c =
    let i = inquiry c.args.book.now c.args.asking.task.effort in
    let s = c.args.asking.task.slice in
    subst (λ (o : Outcome). OwnOf i s c.args.question (notes_of o)) (sym c.from_none.ensures)
    (none_told i s c.args.question
    (c.requires.asks.none
    (λ a sat all. clash_false a c.args.all.now (clash_when c.args.all.now c.are_consistent.result c.are_consistent.ensures c.if-not-are_consistent.true) all)))

pub solve-requires-clause-below : goal.solve-requires-clause-below
solve-requires-clause-below c =
    let same = ap (λ (s : Solving). s.vars) c.point.ensures in
    λ l is_in. omega (arith, same, c.requires.asks.below l is_in)

pub solve-requires-clause-consistent : goal.solve-requires-clause-consistent
solve-requires-clause-consistent c = consistent_when c.args.all.now c.are_consistent.result c.are_consistent.ensures c.if-not-are_consistent.false

pub keep-requires-clause-counted : goal.keep-requires-clause-counted
keep-requires-clause-counted c =
    let b = c.args.book.now in
    let old = c.args.solver.now in
    let now = c.solve.new.self in
    let on : Onwards old now = subst (λ (s : Solving). Onwards s now) c.point.ensures c.solve.ensures.onwards in
    let begins : Begins (given_of now.kernel) c.args.all.now now.codes c.in-Set.set = rw c.in-Set.is at c.in_ok-searched.ensures.answer in
    (begins_onwards b c.args.asking.periods.now c.args.all.now c.in-Set.set old now c.requires.known.over on begins).counted

pub keep-requires-clause-good : goal.keep-requires-clause-good
keep-requires-clause-good c =
    let b = c.args.book.now in
    let s = c.args.asking.task.slice in
    let old = c.args.solver.now in
    let now = c.solve.new.self in
    let on : Onwards old now = subst (λ (s : Solving). Onwards s now) c.point.ensures c.solve.ensures.onwards in
    let begins : Begins (given_of now.kernel) c.args.all.now now.codes c.in-Set.set = rw c.in-Set.is at c.in_ok-searched.ensures.answer in
    (c.requires.asks.meets c.in-Set.set (begins_onwards b c.args.asking.periods.now c.args.all.now c.in-Set.set old now c.requires.known.over on begins)).good_then
    s.first (on_first s c.requires.asking.task.slice.order)

pub returns-in-Set-clause-told : goal.returns-in-Set-clause-told
returns-in-Set-clause-told c =
    let b = c.args.book.now in
    let s = c.args.asking.task.slice in
    let q = c.args.question in
    let x = c.in-Set.set in
    let i = inquiry b c.args.asking.task.effort in
    let old = c.args.solver.now in
    let now = c.solve.new.self in
    let on : Onwards old now = subst (λ (s : Solving). Onwards s now) c.point.ensures c.solve.ensures.onwards in
    let begins : Begins (given_of now.kernel) c.args.all.now now.codes x = rw c.in-Set.is at c.in_ok-searched.ensures.answer in
    subst (λ (o : Outcome). OwnOf i s q (notes_of o)) (sym c.in_ok-outcome-in-Set.ensures.outcome)
    (set_told i s q x c.requires.asking.task.slice.order c.requires.fits
    (c.requires.asks.meets x (begins_onwards b c.args.asking.periods.now c.args.all.now x old now c.requires.known.over on begins)))

pub closed_outcome-requires-clause-asks : goal.closed_outcome-requires-clause-asks
closed_outcome-requires-clause-asks c =
    let now = c.solve.new.self in
    let on : Onwards c.args.solver.now now = subst (λ (s : Solving). Onwards s now) c.point.ensures c.solve.ensures.onwards in
    asks_onwards c.args.book.now c.args.asking.task.slice c.args.question c.args.all.now c.args.solver.now now c.requires.asks on

pub closed_outcome-requires-clause-core : goal.closed_outcome-requires-clause-core
closed_outcome-requires-clause-core c =
    let now = c.solve.new.self in
    let core : IsCore now.kernel c.args.all.now c.in-Closed.at = rw c.in-Closed.is at c.in_ok-searched.ensures.answer in
    core
