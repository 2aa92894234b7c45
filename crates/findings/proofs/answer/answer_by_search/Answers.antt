use Rattle.std.proofs.Common.{◌*◌, [], ◌∷◌, ap, sym, subst, arith}
use Rattle.chains.specs.Growth.{given_of}
use Rattle.solver.specs.Answer.{Begins, IsCore, IsSpent}
use Rattle.solver.specs.Solver.{Solving}
use Rattle.solver.proofs.OneLaws.{closed_by_core, one_below, one_consistent}
use Rattle.findings.specs.Answering.{IsOutcome, IsOver, inquiry}
use Rattle.findings.specs.Outcomes.{outcome_of_set}
use Rattle.findings.proofs.Lifting.{on_first}
use Rattle.findings.proofs.SolverLaws.{over_onwards, meets_by_solver, counted_by_solver, spent_by_solver, of_answer}
use Rattle.findings.proofs.ToldLaws.{set_outcome, left_outcome}
use Rattle.findings.proofs.answer.answer_by_search.Goals as goal

pub solve-requires-clause-below : goal.solve-requires-clause-below
solve-requires-clause-below c =
    let same = ap (λ (s : Solving). s.vars) c.point.ensures in
    one_below c.args.asked.now.goal (2 * c.point.new.solver.vars) (omega (arith, same, c.requires.over.variables, c.requires.asked.below))

pub solve-requires-clause-consistent : goal.solve-requires-clause-consistent
solve-requires-clause-consistent c = one_consistent c.args.asked.now.goal

pub keep-requires-clause-counted : goal.keep-requires-clause-counted
keep-requires-clause-counted c =
    let b = c.args.book.now in
    let s = c.args.task.slice in
    let a = c.args.asked.now in
    let now = c.solve.new.self in
    let over : IsOver b s now = over_onwards b s c.point.new.solver now (subst (IsOver b s) (sym c.point.ensures) c.requires.over) c.solve.ensures.onwards in
    let begins : Begins (given_of now.kernel) (a.goal ∷ []) now.codes c.in-Set.set = rw c.in-Set.is at c.in_ok-searched.ensures.answer in
    counted_by_solver b s a.goal now c.in-Set.set over begins

pub keep-requires-clause-good : goal.keep-requires-clause-good
keep-requires-clause-good c =
    let b = c.args.book.now in
    let s = c.args.task.slice in
    let a = c.args.asked.now in
    let now = c.solve.new.self in
    let over : IsOver b s now = over_onwards b s c.point.new.solver now (subst (IsOver b s) (sym c.point.ensures) c.requires.over) c.solve.ensures.onwards in
    let begins : Begins (given_of now.kernel) (a.goal ∷ []) now.codes c.in-Set.set = rw c.in-Set.is at c.in_ok-searched.ensures.answer in
    (meets_by_solver b s c.requires.asked.number a now c.in-Set.set c.requires.task.facts c.requires.asked.is_its over begins).good_then s.first (on_first s c.requires.task.facts.order)

pub returns-in-Set-clause-outcome : goal.returns-in-Set-clause-outcome
returns-in-Set-clause-outcome c =
    let b = c.args.book.now in
    let s = c.args.task.slice in
    let a = c.args.asked.now in
    let i = inquiry b c.args.task.effort in
    let now = c.solve.new.self in
    let x = c.in-Set.set in
    let over : IsOver b s now = over_onwards b s c.point.new.solver now (subst (IsOver b s) (sym c.point.ensures) c.requires.over) c.solve.ensures.onwards in
    let begins : Begins (given_of now.kernel) (a.goal ∷ []) now.codes x = rw c.in-Set.is at c.in_ok-searched.ensures.answer in
    of_answer c.keep.result (outcome_of_set a.question x) (IsOutcome i s now.kernel.clauses a)
    (set_outcome i s now.kernel.clauses a x c.requires.task.facts.order c.requires.asked.fits
    (meets_by_solver b s c.requires.asked.number a now x c.requires.task.facts c.requires.asked.is_its over begins))
    c.keep.ensures.outcome

pub closed_outcome-requires-clause-over : goal.closed_outcome-requires-clause-over
closed_outcome-requires-clause-over c =
    let b = c.args.book.now in
    let s = c.args.task.slice in
    over_onwards b s c.point.new.solver c.solve.new.self (subst (IsOver b s) (sym c.point.ensures) c.requires.over) c.solve.ensures.onwards

pub closed_outcome-requires-clause-closed : goal.closed_outcome-requires-clause-closed
closed_outcome-requires-clause-closed c =
    let now = c.solve.new.self in
    let g = c.args.asked.now.goal in
    let core : IsCore now.kernel (g ∷ []) c.in-Closed.at = rw c.in-Closed.is at c.in_ok-searched.ensures.answer in
    closed_by_core now.kernel g c.in-Closed.at core

pub returns-in-Spent-clause-outcome : goal.returns-in-Spent-clause-outcome
returns-in-Spent-clause-outcome c =
    let b = c.args.book.now in
    let s = c.args.task.slice in
    let a = c.args.asked.now in
    let i = inquiry b c.args.task.effort in
    let now = c.solve.new.self in
    let learnt = c.in-Spent.learnt in
    let over : IsOver b s now = over_onwards b s c.point.new.solver now (subst (IsOver b s) (sym c.point.ensures) c.requires.over) c.solve.ensures.onwards in
    let spent : IsSpent now.vars (given_of now.kernel) (a.goal ∷ []) c.args.task.effort.budget learnt.clauses = rw c.in-Spent.is at c.in_ok-searched.ensures.answer in
    left_outcome i s now.kernel.clauses a learnt c.requires.asked.fits (spent_by_solver b s a.goal c.args.task.effort.budget now learnt.clauses over spent)
