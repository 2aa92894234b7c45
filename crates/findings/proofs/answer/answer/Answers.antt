use Rattle.findings.specs.Answering.{IsOutcome, inquiry}
use Rattle.findings.specs.Outcomes.{outcome_of_set}
use Rattle.findings.proofs.Lifting.{meets_from_found}
use Rattle.findings.proofs.SolverLaws.{of_answer}
use Rattle.findings.proofs.ToldLaws.{set_outcome}
use Rattle.findings.proofs.answer.answer.Goals as goal

pub returns-in-Some-clause-outcome : goal.returns-in-Some-clause-outcome
returns-in-Some-clause-outcome c =
    let b = c.args.book.now in
    let s = c.args.task.slice in
    let a = c.args.asked.now in
    let i = inquiry b c.args.task.effort in
    let clauses = c.args.solver.now.kernel.clauses in
    let found = c.in-Some.ensures.found in
    let x = c.in-Some.found.now.set in
    of_answer c.from_set.result (outcome_of_set a.question x) (IsOutcome i s clauses a)
    (set_outcome i s clauses a x c.requires.task.facts.order c.requires.asked.fits
    (meets_from_found b s c.requires.asked.number a x c.requires.task.facts c.requires.asked.is_its found.counted found.good_then c.in-Some.ensures.met))
    c.from_set.ensures
