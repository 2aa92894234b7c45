use Rattle.std.proofs.Common.{sym, subst}
use Rattle.clause_pool.specs.Derivation.{Derivation, AllFollow}
use Rattle.findings.specs.Answering.{IsOutcome, inquiry}
use Rattle.findings.proofs.SolverLaws.{none_by_solver}
use Rattle.findings.proofs.ToldLaws.{clause_outcome}
use Rattle.findings.proofs.answer.closed_outcome.Goals as goal

pub returns : goal.returns
returns c =
    let b = c.args.book.now in
    let s = c.args.task.slice in
    let a = c.args.asked.now in
    let i = inquiry b c.args.task.effort in
    let now = c.args.solver.now in
    let at = c.args.at in
    let follow : AllFollow now.kernel = subst (λ (k : Derivation). AllFollow k) c.kernel.ensures c.pool.ensures.follow in
    subst (IsOutcome i s now.kernel.clauses a) (sym c.from_clause.ensures)
    (clause_outcome i s now.kernel.clauses a at c.requires.asked.fits
    (none_by_solver b s c.requires.asked.number a now at c.requires.facts c.requires.asked.is_its c.requires.over.stands.given follow c.requires.closed) c.requires.closed)
